-- The depths of a tree: each router but the root is one deeper than the router above it.
use Rattle.std.proofs.Common.{◌≡◌, ◌≢◌, inl, inr, ℕ, zero, suc, ◌<◌, ◌≤◌, Bool, false, ◌&&◌, ◌||◌}
use Rattle.std.proofs.Common.{not, sym, ◌∙◌, ap, refl, arith}
use Rattle.std.specs.Prelude.{◌==◌}
use Rattle.std.proofs.lemmas.Bool.{cases_Bool, cases_eq, eq-eqb, ne_eqb}
use Rattle.cut_model.specs.Net.{Net}
use Rattle.cut_model.specs.Cuts.{RouterSet}
use Rattle.cut_model.specs.Terminals.{IsTerminal, is_terminal, number_in, root_of}
use Rattle.cut_model.proofs.Counting.{with_number, number_in-none, number_in-lt, number_in-new}
use Rattle.cut_model.proofs.Crossing.{same_sets}
use Rattle.cut_model.proofs.Terminals.{terminal-lt}
use Rattle.tree_state.specs.Tables.{Table, below}
use Rattle.tree_state.specs.Views.{TreeView, up_of, HoldsCutTree}
use Rattle.tree_state.proofs.Forest.{some_up-suc}
use Rattle.tree_state.proofs.Trees.{Tree, tree_of, tree-longer, tree_below-root, tree_below_is, tree_below-up}
use Rattle.path_minimum.specs.Depths.{depth_in, depth_of}

-- ---- below a router, one step up

-- a way up of n routers, where that is how many there are
below_suc : (net : Net) (t : Tree net) (c i n : ℕ) → n ≡ net.routers → c ≢ t.root → IsTerminal net (t.up i)
    → below n t.up c i ≡ ((i == c) || below n t.up c (t.up i))
below_suc net t c i zero all not_root terminal = absurd (omega (arith, t.short (t.up i) terminal))
below_suc net t c i (suc m) all not_root terminal =
    some_up-suc (λ j. j == c) t.up m i
    ∙ ap (λ (b : Bool). (i == c) || b)
    (sym (tree-longer net t (λ j. j == c) (ne_eqb t.root c (λ e. not_root (sym e))) m (t.up i) terminal
    (omega (arith, t.short (t.up i) terminal))))

-- below c, other than the root, are c and what hangs from a terminal below c
pub below_step : (net : Net) (t : Tree net) (c i : ℕ) → c ≢ t.root → IsTerminal net (t.up i)
    → below net.routers t.up c i ≡ ((i == c) || below net.routers t.up c (t.up i))
below_step net t c i not_root terminal = below_suc net t c i net.routers refl not_root terminal

-- no terminal is below a router that isn't one, by induction over its depth
below-transit : (net : Net) (t : Tree net) (c : ℕ) → c ≢ t.root → is_terminal net c ≡ false → (k i : ℕ)
    → IsTerminal net i → t.depth i ≤ k → below net.routers t.up c i ≡ false
below-transit net t c not_root transit zero i terminal low =
    let e : i ≡ t.root = grind (arith, cases_eq i t.root, t.step i terminal) in
    rw e (tree_below-root net t c not_root)
below-transit net t c not_root transit (suc k) i terminal low = elim (cases_eq i t.root) [
  | inl e ↦ rw e (tree_below-root net t c not_root)
  | inr ne ↦
      rw (tree_below_is net t c i not_root terminal, ne_eqb i c (λ e. differ (ap (is_terminal net) e)))
      (below-transit net t c not_root transit k (t.up i) (t.up_is i terminal) (omega (arith, t.step i terminal ne)))
]
  where
    differ : is_terminal net i ≡ is_terminal net c → ⊥
    differ e = cc (terminal, transit, e)

-- so no router has the one above it below it, but for the root
pub below-up : (net : Net) (t : Tree net) (c : ℕ) → c ≢ t.root → IsTerminal net (t.up c)
    → below net.routers t.up c (t.up c) ≡ false
below-up net t c not_root terminal = elim (cases_Bool (is_terminal net c)) [
  | inl inside ↦ tree_below-up net t c not_root inside
  | inr transit ↦ below-transit net t c not_root transit (t.depth (t.up c)) (t.up c) terminal (omega arith)
]

-- ---- the routers above one

-- The routers other than the root that have i below them.
abbrev pub above : ℕ → ℕ → Table → ℕ → RouterSet
above n root up i c = below n up c i && not (c == root)

-- there are none above the root
above-root : (net : Net) (t : Tree net) (c : ℕ) → above net.routers t.root t.up t.root c ≡ false
above-root net t c = elim (cases_eq c t.root) [
  | inl e ↦ rw (eq-eqb c t.root e) (grind (arith, cases_Bool (below net.routers t.up c t.root)))
  | inr ne ↦ rw (tree_below-root net t c ne) refl
]

-- those above another router are the router itself and those above the one that it hangs from
above_step : (net : Net) (t : Tree net) (i : ℕ) → i ≢ t.root → IsTerminal net (t.up i) → (c : ℕ)
    → above net.routers t.root t.up i c ≡ with_number i (above net.routers t.root t.up (t.up i)) c
unfolding with_number
above_step net t i not_root terminal c = elim (cases_eq c t.root) [
  | inl e ↦ rw (e, eq-eqb t.root t.root refl, ne_eqb t.root i (λ q. not_root (sym q)))
      (grind (
        arith,
        cases_Bool (below net.routers t.up t.root i),
        cases_Bool (below net.routers t.up t.root (t.up i)),
      ))
  | inr ne ↦ rw (below_step net t c i ne terminal, ne_eqb c t.root ne, turned)
      (grind (arith, cases_Bool (c == i), cases_Bool (below net.routers t.up c (t.up i))))
]
  where
    turned : (i == c) ≡ (c == i)
    turned = elim (cases_eq i c) [
      | inl e ↦ eq-eqb i c e ∙ sym (eq-eqb c i (sym e))
      | inr ne ↦ ne_eqb i c ne ∙ sym (ne_eqb c i (λ e. ne (sym e)))
    ]

-- ---- depths

-- the root has depth 0
pub depth_in-root : (net : Net) (t : Tree net) → depth_in net.routers t.root t.up t.root ≡ 0
unfolding depth_in
depth_in-root net t =
    number_in-none (above net.routers t.root t.up t.root) (above-root net t) net.routers

-- each other router is one deeper than the router above it
pub depth_in-suc : (net : Net) (t : Tree net) (i : ℕ) → i < net.routers → i ≢ t.root → IsTerminal net (t.up i)
    → depth_in net.routers t.root t.up i ≡ suc (depth_in net.routers t.root t.up (t.up i))
unfolding depth_in
depth_in-suc net t i low not_root terminal =
    ap (λ (X : RouterSet). number_in X net.routers)
    (same_sets (above net.routers t.root t.up i) (with_number i (above net.routers t.root t.up (t.up i)))
    (above_step net t i not_root terminal))
    ∙ number_in-new (above net.routers t.root t.up (t.up i)) i net.routers
    (rw (below-up net t i not_root terminal) refl) low

-- no depth is as large as the number of routers, since the root isn't counted
pub depth_in-lt : (net : Net) (t : Tree net) (i : ℕ) → depth_in net.routers t.root t.up i < net.routers
unfolding depth_in
depth_in-lt net t i =
    number_in-lt (above net.routers t.root t.up i) t.root net.routers
    (rw (eq-eqb t.root t.root refl) (grind (arith, cases_Bool (below net.routers t.up t.root i))))
    (terminal-lt net t.root t.root_is)

-- ---- the tree of a finished run

-- The tree with these depths.
abbrev pub counted : (net : Net) → Tree net → Tree net
counted net t = record t {
  depth = depth_in net.routers t.root t.up;
  depth_root = depth_in-root net t;
  step = λ i terminal not_root. depth_in-suc net t i (terminal-lt net i terminal) not_root (t.up_is i terminal);
  short = λ i terminal. depth_in-lt net t i;
}

-- The tree of a view that holds a cut tree.
abbrev pub tree_in : (tree : TreeView) → HoldsCutTree tree → Tree tree.net
tree_in tree holds = counted tree.net (tree_of tree.net (root_of tree.net) (up_of tree) _ holds)

-- the router above one of the network is a terminal
pub up_terminal : (tree : TreeView) → HoldsCutTree tree → (i : ℕ) → i < tree.net.routers
    → IsTerminal tree.net (up_of tree i)
up_terminal tree holds i low = holds.up_is i low

-- each router of the network but the root is one deeper than the router above it
pub depth_of-suc : (tree : TreeView) → HoldsCutTree tree → (i : ℕ) → i < tree.net.routers → i ≢ root_of tree.net
    → depth_of tree i ≡ suc (depth_of tree (up_of tree i))
depth_of-suc tree holds i low not_root =
    depth_in-suc tree.net (tree_of tree.net (root_of tree.net) (up_of tree) _ holds) i low not_root
    (up_terminal tree holds i low)

-- the root has depth 0
pub depth_of-root : (tree : TreeView) → HoldsCutTree tree → depth_of tree (root_of tree.net) ≡ 0
depth_of-root tree holds = depth_in-root tree.net (tree_of tree.net (root_of tree.net) (up_of tree) _ holds)

-- no depth is as large as the number of routers
pub depth_of-lt : (tree : TreeView) → HoldsCutTree tree → (i : ℕ) → depth_of tree i < tree.net.routers
depth_of-lt tree holds i = depth_in-lt tree.net (tree_of tree.net (root_of tree.net) (up_of tree) _ holds) i
