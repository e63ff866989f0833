-- What the marks on one way up tell of another.
use Rattle.std.proofs.Common.{◌≡◌, ◌≢◌, inl, inr, ℕ, ◌<◌, Bool, true, false, ◌&&◌, ◌||◌, List, length}
use Rattle.std.proofs.Common.{sym, ◌∙◌, ap, subst, arith, refl}
use Rattle.std.specs.Prelude.{◌==◌}
use Rattle.std.proofs.Math.ListN.{set}
use Rattle.std.proofs.lemmas.Bool.{cases_Bool, cases_eq, eq-eqb, ne_eqb}
use Rattle.std.proofs.lemmas.List.{length-set, get_or-set_same, get_or-set_other}
use Rattle.cut_model.specs.Cuts.{set_of}
use Rattle.cut_model.specs.Terminals.{IsTerminal, root_of}
use Rattle.cut_model.proofs.Terminals.{terminal-lt}
use Rattle.tree_state.specs.Views.{TreeView, up_of, HoldsCutTree}
use Rattle.tree_state.specs.Shown.{ShowsSet}
use Rattle.tree_state.specs.Tables.{below}
use Rattle.tree_state.proofs.Trees.{Tree, tree_below_is, tree_below-root}
use Rattle.path_minimum.specs.Walks.{IsMeeting}
use Rattle.path_minimum.proofs.Depths.{tree_in}
use Rattle.path_minimum.proofs.Ways.{below-through}

-- The routers of a network that are below c in a tree.
abbrev pub below_in : TreeView → ℕ → ℕ → Bool
below_in tree c i = below tree.net.routers (up_of tree) c i

-- a router that isn't the root is marked, and the walk goes on above it
pub marked-more : (tree : TreeView) → HoldsCutTree tree → (marks : List Bool) (router at : ℕ)
    → IsTerminal tree.net at → length marks ≡ tree.net.routers → (c : ℕ) → c ≢ root_of tree.net
    → below_in tree c router ≡ (set_of marks c || below_in tree c at)
    → below_in tree c router ≡ (set_of (set marks at true) c || below_in tree c (up_of tree at))
marked-more tree holds marks router at at_is size c not_root before = elim (cases_eq c at) [
  | inl here ↦ (
      let marked : set_of (set marks at true) c ≡ true =
      ap (set_of (set marks at true)) here
      ∙ get_or-set_same marks at true false (omega (arith, size, terminal-lt tree.net at at_is)) in
      rw (marked, before, step, eq-eqb at c (sym here)) (grind (arith, cases_Bool (set_of marks c))))
  | inr other ↦ (
      let kept : set_of (set marks at true) c ≡ set_of marks c = get_or-set_other marks at c true false other in
      rw (kept, before, step, ne_eqb at c (λ e. other (sym e))) refl)
]
  where
    step : below_in tree c at ≡ ((at == c) || below_in tree c (up_of tree at))
    step = tree_below_is tree.net (tree_in tree holds) c at not_root at_is

-- where the walk has come to the root, that is marked, and the marks are those of the whole way
pub marked-all : (tree : TreeView) → HoldsCutTree tree → (marks : List Bool) (router : ℕ)
    → IsTerminal tree.net router → length marks ≡ tree.net.routers
    → ((c : ℕ) → c < tree.net.routers → c ≢ root_of tree.net
    → below_in tree c router ≡ (set_of marks c || below_in tree c (root_of tree.net)))
    → ShowsSet tree.net.routers (λ c. below_in tree c router) (set marks (root_of tree.net) true)
marked-all tree holds marks router router_is size before = record {
  size = length-set marks root true ∙ size;
  shows = λ c low. elim (cases_eq c root) [
    | inl here ↦ subst (λ (r : ℕ). set_of (set marks root true) r ≡ below_in tree r router) (sym here)
        (get_or-set_same marks root true false (omega (arith, size, terminal-lt tree.net root t.root_is))
        ∙ sym (t.meets router router_is))
    | inr other ↦ get_or-set_other marks root c true false other
        ∙ sym (before c low other
        ∙ rw (tree_below-root tree.net t c other) (grind (arith, cases_Bool (set_of marks c))))
  ];
}
  where
    t : Tree tree.net
    t = tree_in tree holds

    root : ℕ
    root = root_of tree.net

-- a router that hasn't the first terminal below it is passed over
pub shared-more : (tree : TreeView) → HoldsCutTree tree → (a at : ℕ) → IsTerminal tree.net a
    → IsTerminal tree.net at → below_in tree at a ≡ false → (c : ℕ)
    → (below_in tree c a && below_in tree c at) ≡ (below_in tree c a && below_in tree c (up_of tree at))
shared-more tree holds a at a_is at_is lacks c = elim (cases_eq c (root_of tree.net)) [
  | inl top ↦ subst (λ (r : ℕ). (below_in tree r a && below_in tree r at)
      ≡ (below_in tree r a && below_in tree r (up_of tree at))) (sym top)
      (rw (t.meets at at_is, t.meets (up_of tree at) (t.up_is at at_is)) refl)
  | inr not_root ↦ rw (tree_below_is tree.net t c at not_root at_is) (elim (cases_eq at c) [
    | inl here ↦
        rw (subst (λ (r : ℕ). below_in tree r a ≡ false) here lacks) refl
    | inr other ↦ rw (ne_eqb at c other) refl
  ])
]
  where
    t : Tree tree.net
    t = tree_in tree holds

-- the first router that has it below it is where the two ways meet
pub shared-all : (tree : TreeView) → HoldsCutTree tree → (a b at : ℕ) → IsTerminal tree.net a
    → IsTerminal tree.net at → below_in tree at a ≡ true
    → ((c : ℕ) → (below_in tree c a && below_in tree c b) ≡ (below_in tree c a && below_in tree c at))
    → IsMeeting tree.net (up_of tree) a b at
shared-all tree holds a b at a_is at_is inside shared = record {
  terminal = at_is;
  shared = λ c. elim (cases_Bool (below_in tree c at)) [
    | inl holds_at ↦ holds_at
        ∙ sym (shared c ∙ rw (holds_at, below-through tree.net t c at a a_is holds_at inside) refl)
    | inr lacks_at ↦ lacks_at ∙ sym (shared c ∙ rw lacks_at (grind (arith, cases_Bool (below_in tree c a))))
  ];
}
  where
    t : Tree tree.net
    t = tree_in tree holds
