-- Sides that are marked by the places of a walk.
use Rattle.std.proofs.Common.{◌≡◌, inl, inr, ℕ, ◌<◌, ◌≤◌, Bool, true, false, not, List, length, replicate}
use Rattle.std.proofs.Common.{sym, ◌∙◌, ap, arith}
use Rattle.std.specs.Prelude.{slice_index, if◌then◌else◌}
use Rattle.std.proofs.lemmas.Bool.{cases_Bool, false≢true}
use Rattle.std.proofs.lemmas.List.{length-replicate, get_or-replicate, get_or_default, same_lists}
use Rattle.cut_model.specs.Crossing.{outside}
use Rattle.cut_model.specs.Cuts.{RouterSet, set_of}
use Rattle.tree_state.specs.Views.{TreeView}
use Rattle.tree_state.specs.Shown.{ShowsSet}
use Rattle.path_minimum.specs.Stretches.{below_in, stretch_at, is_in, IsNotBetween, IsWalkOf, WalkView}
use Rattle.path_minimum.proofs.Running.{is_in-before, is_in-inside, is_in-behind, is_in-parts, is_out-parts}

-- The routers below c, or all others.
abbrev pub side_of_child : TreeView → ℕ → Bool → RouterSet
side_of_child tree c holds = if holds then below_in tree c else outside (below_in tree c)

-- a router below c is on it where it is that of the routers below c
side_of-below : (tree : TreeView) (c r : ℕ) (holds : Bool) → below_in tree c r ≡ true
    → side_of_child tree c holds r ≡ holds
side_of-below tree c r true is = is
side_of-below tree c r false is = ap not is

-- and any other router where it is that of the others
side_of-other : (tree : TreeView) (c r : ℕ) (holds : Bool) → below_in tree c r ≡ false
    → side_of_child tree c holds r ≡ not holds
side_of-other tree c r true is = is
side_of-other tree c r false is = ap not is

-- A side on which the places of an order from one up to another are marked, and no others.
pub record IsMarkedBetween (order : List ℕ) (from end : ℕ) (inside : Bool) (old new : List Bool) : Type 0 where
  pub marked : (k : ℕ) → from ≤ k → k < end → set_of new (slice_index order k) ≡ inside
  pub others : (r : ℕ) → IsNotBetween order from end r → set_of new r ≡ set_of old r
  pub size : length new ≡ length old

-- where the stretch is marked on the side of none, or unmarked on that of all, the side shows
pub stretch-marked : (tree : TreeView) (walk : WalkView) (c : ℕ) (holds : Bool) (new : List Bool)
    → IsWalkOf tree walk → c < tree.net.routers
    → IsMarkedBetween walk.order (stretch_at walk.stretches c).from (stretch_at walk.stretches c).end holds
    (replicate tree.net.routers (not holds)) new
    → ShowsSet tree.net.routers (side_of_child tree c holds) new
stretch-marked tree walk c holds new is low marks = record {
  size = marks.size ∙ length-replicate tree.net.routers (not holds);
  shows = λ r r_low. elim (cases_Bool (below_in tree c r)) [
    | inl has ↦ inner r r_low has ∙ sym (side_of-below tree c r holds has)
    | inr lacks ↦ marks.others r (other r lacks)
        ∙ get_or-replicate tree.net.routers r (not holds) false r_low
        ∙ sym (side_of-other tree c r holds lacks)
  ];
}
  where
    inner : (r : ℕ) → r < tree.net.routers → below_in tree c r ≡ true → set_of new r ≡ holds
    inner r r_low has =
        let k : ℕ = (stretch_at walk.stretches r).from in
        let in_stretch : is_in (stretch_at walk.stretches c) k ≡ true =
        sym (is.below_is c k low (is.from_within r r_low)) ∙ ap (below_in tree c) (is.from_is r r_low) ∙ has in
        let parts = is_in-parts (stretch_at walk.stretches c) k in_stretch in
        ap (set_of new) (sym (is.from_is r r_low)) ∙ marks.marked k parts.0 parts.1

    other : (r : ℕ) → below_in tree c r ≡ false
        → IsNotBetween walk.order (stretch_at walk.stretches c).from (stretch_at walk.stretches c).end r
    other r lacks k from end same =
        false≢true (sym lacks ∙ ap (below_in tree c) (sym same)
        ∙ is.below_is c k low (omega (arith, end, is.end_within c low))
        ∙ is_in-inside (stretch_at walk.stretches c) k from end)

-- and so does one where all other places are marked so
pub others-marked : (tree : TreeView) (walk : WalkView) (c : ℕ) (holds : Bool) (half new : List Bool)
    → IsWalkOf tree walk → c < tree.net.routers
    → IsMarkedBetween walk.order 0 (stretch_at walk.stretches c).from (not holds)
    (replicate tree.net.routers holds) half
    → IsMarkedBetween walk.order (stretch_at walk.stretches c).end tree.net.routers (not holds) half new
    → ShowsSet tree.net.routers (side_of_child tree c holds) new
others-marked tree walk c holds half new is low front back = record {
  size = back.size ∙ front.size ∙ length-replicate tree.net.routers holds;
  shows = λ r r_low. elim (cases_Bool (below_in tree c r)) [
    | inl has ↦ back.others r
        (λ k from end same. apart k end (is_in-behind (stretch_at walk.stretches c) k from) has same)
        ∙ front.others r (λ k from end same. apart k (omega (arith, end, is.from_within c low))
        (is_in-before (stretch_at walk.stretches c) k end) has same)
        ∙ get_or-replicate tree.net.routers r holds false r_low
        ∙ sym (side_of-below tree c r holds has)
    | inr lacks ↦ outer r r_low lacks ∙ sym (side_of-other tree c r holds lacks)
  ];
}
  where
    apart : {r : ℕ} (k : ℕ) → k < tree.net.routers → is_in (stretch_at walk.stretches c) k ≡ false
        → below_in tree c r ≡ true → slice_index walk.order k ≡ r → ⊥
    apart k k_low out has same =
        false≢true (sym out ∙ sym (is.below_is c k low k_low) ∙ ap (below_in tree c) same ∙ has)

    outer : (r : ℕ) → r < tree.net.routers → below_in tree c r ≡ false → set_of new r ≡ not holds
    outer r r_low lacks =
        let k : ℕ = (stretch_at walk.stretches r).from in
        let here : slice_index walk.order k ≡ r = is.from_is r r_low in
        let out : is_in (stretch_at walk.stretches c) k ≡ false =
        sym (is.below_is c k low (is.from_within r r_low)) ∙ ap (below_in tree c) here ∙ lacks in
        elim (is_out-parts (stretch_at walk.stretches c) k out) [
          | inr past ↦ ap (set_of new) (sym here) ∙ back.marked k past (is.from_within r r_low)
          | inl less ↦ back.others r (λ j from end same. absurd (omega (
            arith,
            less,
            from,
            is.ordered c low,
            is.place_is j end,
            ap (λ (q : ℕ). (stretch_at walk.stretches q).from) same,
          )))
              ∙ ap (set_of half) (sym here) ∙ front.marked k (omega arith) less
        ]

-- ---- sides of all or none

-- a list is all of one value
pub all-same : (side : List Bool) (n : ℕ) (b : Bool) → length side ≡ n
    → ((c : ℕ) → c < n → set_of side c ≡ b) → side ≡ replicate n b
all-same side n b size all =
    same_lists side (replicate n b) (size ∙ sym (length-replicate n b))
    (λ i d low. get_or_default side i d false low ∙ all i (omega (arith, low, size))
    ∙ sym (get_or-replicate n i b d (omega (arith, low, size))))
