-- What the arcs of one router reach.
use Rattle.std.proofs.Common.{◌≡◌, ℕ, ◌+◌, ◌<◌, ◌≤◌, Bool, List, length, get_or, arith, inl, inr}
use Rattle.std.proofs.lemmas.Bool.{cases_lt}
use Rattle.residual_graph.specs.Arcs.{tail_of, arc_count, turned}
use Rattle.residual_graph.specs.Places.{no_place, place_of, IsPlaceOf}
use Rattle.residual_graph.specs.declared.place.Place.{Place}
use Rattle.dinic_flow.specs.Levels.{IsOpen}
use Rattle.dinic_flow.specs.Balls.{Search, Reached, LeadsOn, Grows}
use Rattle.dinic_flow.proofs.Walks.{ArcAlong, leads-along, arc-along}
use Rattle.dinic_flow.proofs.Entering.{IsNext}

-- The arc of a place leads on from its tail to its head, if it is open the way that is followed.
pub place-leads : (search : Search) (back : Bool) (place : Place) →
    IsPlaceOf search.view.net (tail_of search.view.net place.arc) place →
    IsOpen search.view search.threshold (turned back place.arc) →
    LeadsOn search back (tail_of search.view.net place.arc) place.head
place-leads search back place is is_open = rw is.head (leads-along search back place.arc is.arc is_open)

-- Its head is the next router, if it has no label.
pub place-next : (search : Search) (back : Bool) (label : List ℕ) (place : Place) (next : ℕ) →
    IsPlaceOf search.view.net (tail_of search.view.net place.arc) place →
    IsOpen search.view search.threshold (turned back place.arc) →
    search.view.net.routers ≤ length label → 0 < get_or label (tail_of search.view.net place.arc) 0 →
    get_or label (tail_of search.view.net place.arc) 0 + 1 ≡ next → get_or label place.head 0 ≡ 0 →
    IsNext search back label (tail_of search.view.net place.arc) place.head next
place-next search back label place next is is_open size some level none = record {
  leads = place-leads search back place is is_open;
  tail = some;
  level = level;
  small = is.below;
  room = omega (arith, is.below, size);
  none = none;
}

-- The head of a place has a label, if its arc is open the way that is followed.
abbrev pub IsReached : Search → Bool → List ℕ → Place → Type 0
IsReached search back label place =
    IsOpen search.view search.threshold (turned back place.arc) → 0 < get_or label place.head 0

-- One place more is reached.
pub reached-more : {before after : Reached} {next : ℕ} (search : Search) (back : Bool) (places : List Place)
    (index : ℕ) → Grows before after next →
    ((k : ℕ) → k < index → IsReached search back before.label (get_or places k no_place)) →
    IsReached search back after.label (get_or places index no_place) →
    (k : ℕ) → k < index + 1 → IsReached search back after.label (get_or places k no_place)
reached-more {before = before} search back places index grows earlier here k short =
    elim (cases_lt k index) [
      | inl early ↦ λ is_open.
          let was : 0 < get_or before.label (get_or places k no_place).head 0 = earlier k early is_open in
          rw (grows.kept (get_or places k no_place).head was) was
      | inr late ↦ let last : k ≡ index = omega arith in rw last here
    ]

-- Where all places of a router are reached, each router to which an open arc leads on from it has a label.
pub reached-all : (search : Search) (back : Bool) (places : List Place) (label : List ℕ) (u v : ℕ) →
    ((arc : ℕ) → arc < arc_count search.view.net → tail_of search.view.net arc ≡ u →
    (i : ℕ) × (i < length places) × (get_or places i no_place ≡ place_of search.view.net arc)) →
    ((k : ℕ) → k < length places → IsReached search back label (get_or places k no_place)) →
    LeadsOn search back u v → 0 < get_or label v 0
reached-all search back places label u v every reached leads =
    let along : ArcAlong search back u v = arc-along search back u v leads in
    let (i, short, is) = every along.arc along.within along.tail in
    let here : IsReached search back label (place_of search.view.net along.arc) = rw is at (reached i short) in
    rw along.head at (here along.is_open)
