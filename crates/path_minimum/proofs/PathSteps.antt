-- The path between two routers, turned round, empty, and at its deeper end.
use Rattle.std.proofs.Common.{◌≢◌, ℕ, ◌≤◌, sym, ◌∙◌}
use Rattle.std.proofs.lemmas.Bool.{false≢true}
use Rattle.cut_model.specs.Net.{Net}
use Rattle.cut_model.specs.Terminals.{IsTerminal}
use Rattle.tree_state.specs.Paths.{IsOnPath}
use Rattle.tree_state.proofs.Paths.{differ_comm, differ-same, deeper-not_root, on_path-deeper}
use Rattle.tree_state.proofs.Trees.{Tree, tree_below}

-- no edge is on the path of a router and itself
pub on_path-none : (net : Net) (t : Tree net) (a c : ℕ) → IsOnPath net t.up a a c → ⊥
on_path-none net t a c on_path = false≢true (sym (differ-same (tree_below net t c a)) ∙ on_path.parting)

-- the path of b and a is that of a and b
pub on_path-turned : (net : Net) (t : Tree net) (a b c : ℕ) → IsOnPath net t.up a b c → IsOnPath net t.up b a c
on_path-turned net t a b c on_path = record {
  terminal = on_path.terminal;
  parting = differ_comm (tree_below net t c b) (tree_below net t c a) ∙ on_path.parting;
}

-- of two terminals that differ, the deeper one isn't the root
pub low-not_root : (net : Net) (t : Tree net) (a b : ℕ) → IsTerminal net b → t.depth b ≤ t.depth a → a ≢ b
    → a ≢ t.root
low-not_root net t a b b_is low apart = deeper-not_root net t a b b_is low (λ e. apart (sym e))

-- and it is on their path
pub on_path-low : (net : Net) (t : Tree net) (a b : ℕ) → IsTerminal net a → IsTerminal net b
    → t.depth b ≤ t.depth a → a ≢ b → IsOnPath net t.up a b a
on_path-low net t a b a_is b_is low apart =
    on_path-deeper net t a b a_is b_is low (λ e. apart (sym e)) (low-not_root net t a b b_is low apart)
