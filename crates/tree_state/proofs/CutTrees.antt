-- Complete histories are cut trees, and a set that parts two terminals of a cut tree costs at least the width of some
-- edge on their path.
use Rattle.std.proofs.Common.{◌≡◌, ◌≢◌, inl, inr, ℕ, ◌≤◌, true, false, List, [], ◌∷◌, ◌++◌, refl}
use Rattle.std.specs.Prelude.{◌==◌}
use Rattle.std.proofs.lemmas.Bool.{cases_Bool, false≢true, eqb-true}
use Rattle.cut_model.specs.Net.{Net}
use Rattle.cut_model.specs.Cuts.{RouterSet, differ, cut_value}
use Rattle.cut_model.specs.Terminals.{IsTerminal, root_of}
use Rattle.cut_model.proofs.Crossing.{parting_costs}
use Rattle.cut_model.proofs.Terminals.{terminal-lt}
use Rattle.tree_state.specs.declared.entry.Entry.{Entry}
use Rattle.tree_state.specs.Tables.{Table, below}
use Rattle.tree_state.specs.History.{tables, entered, IsLegalAfter, IsComplete}
use Rattle.tree_state.specs.Trees.{IsHalfBuiltTree, IsCutTree}
use Rattle.tree_state.specs.Paths.{IsOnPath}
use Rattle.tree_state.proofs.HalfBuilt.{half_built}
use Rattle.tree_state.proofs.Trees.{Tree, tree_of}
use Rattle.tree_state.proofs.Paths.{IsCrossedAt, path_crossed}

-- ---- complete histories

-- an entered router is a terminal
pub entered_terminal : (net : Net) (before history : List Entry) → IsLegalAfter net before history → (c : ℕ)
    → entered history c ≡ true → IsTerminal net c
unfolding IsLegalAfter entered
entered_terminal net before [] legal c is_entered = absurd (false≢true is_entered)
entered_terminal net before (entry ∷ history) legal c is_entered = elim (cases_Bool (c == entry.router)) [
  | inl here ↦ rw (eqb-true c entry.router here) legal.0.terminal
  | inr later ↦ entered_terminal net (before ++ entry ∷ []) history legal.1 c (rw later at is_entered)
]

-- the tables of a complete history are a cut tree
pub complete_cut_tree : (net : Net) → IsTerminal net (root_of net) → (history : List Entry) → IsComplete net history
    → IsCutTree net (root_of net) (tables (root_of net) history).up (tables (root_of net) history).width
complete_cut_tree net root_is history complete = record {
  root_is = root_is;
  up_is = λ i low. elim (half.inner i) [
    | inl top ↦ rw top root_is
    | inr is_entered ↦ entered_terminal net [] history complete.legal ((tables (root_of net) history).up i) is_entered
  ];
  cuts = λ c terminal not_root. half.cuts c (complete.all c terminal not_root);
}
  where
    half : IsHalfBuiltTree net (tables (root_of net) history).up (tables (root_of net) history).width (entered history)
    half = half_built net (terminal-lt net (root_of net) root_is) history complete.legal

-- ---- what a set costs that parts two terminals

-- An edge of a cut tree, by its lower end, on the path of a and b, of a width that a set doesn't undercut.
pub record IsBoundedAt (net : Net) (root : ℕ) (up width : Table) (Y : RouterSet) (a b c : ℕ) : Type 0 where
  pub on_path : IsOnPath net up a b c
  pub not_root : c ≢ root
  pub bound : width c ≤ cut_value net Y

-- a set that parts two terminals costs at least the width of an edge on their path: one that it crosses
pub path_bounds : (net : Net) (root : ℕ) (up width : Table) → IsCutTree net root up width → (Y : RouterSet) (a b : ℕ)
    → IsTerminal net a → IsTerminal net b → Y a ≡ true → Y b ≡ false
    → (c : ℕ) × IsBoundedAt net root up width Y a b c
path_bounds net root up width cut_tree Y a b a_is b_is holds lacks =
    let t : Tree net = tree_of net root up width cut_tree in
    let parted : differ (Y a) (Y b) ≡ true = rw (holds, lacks) refl in
    let found : (c : ℕ) × IsCrossedAt net t Y a b c = path_crossed net t Y a b a_is b_is parted in (
      found.0,
      record {
        on_path = found.1.on_path;
        not_root = found.1.not_root;
        bound = parting_costs net found.0 (up found.0) (width found.0) (below net.routers up found.0) Y
            (cut_tree.cuts found.0 found.1.on_path.terminal found.1.not_root) found.1.crossed;
      },
    )
