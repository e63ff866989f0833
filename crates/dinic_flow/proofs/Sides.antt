-- Sides that get routers, and the least side of two routers.
use Rattle.std.proofs.Common.{◌≡◌, ◌≢◌, ℕ, ◌<◌, Bool, true, false, List, length, set, replicate}
use Rattle.std.proofs.Common.{sym, ◌∙◌, subst, arith, inl, inr}
use Rattle.std.specs.Prelude.{Contains, ◌↔◌}
use Rattle.std.proofs.lemmas.Bool.{cases_Bool, cases_eq, cases_lt, false≢true}
use Rattle.std.proofs.lemmas.List.{get_or_past, get_or-set_same, get_or-set_other, get_or-replicate, length-replicate}
use Rattle.cut_model.specs.Cuts.{set_of, IsLeastSide}
use Rattle.cut_model.specs.Flow.{IsFlow, IsClosed}
use Rattle.cut_model.proofs.Reached.{reached_least}
use Rattle.residual_graph.specs.View.{ResidualView, IsSound}
use Rattle.dinic_flow.specs.Levels.{OpenArc}
use Rattle.dinic_flow.specs.Searching.{IsApart}
use Rattle.dinic_flow.proofs.Pushes.{caps-length}
use Rattle.dinic_flow.proofs.OpenArcs.{leads-arc, walk-reached}

-- An empty side holds no router.
pub set_of-none : (n r : ℕ) → set_of (replicate n false) r ≡ false
set_of-none n r = elim (cases_lt r n) [
  | inl within ↦ get_or-replicate n r false false within
  | inr past ↦ get_or_past (replicate n false) r false (omega (arith, length-replicate n false))
]

-- A side into which a router is put holds it.
pub set_of-put : (side : List Bool) (r : ℕ) → r < length side → set_of (set side r true) r ≡ true
set_of-put side r within = get_or-set_same side r true false within

-- It holds all that it held.
pub set_of-kept : (side : List Bool) (r q : ℕ) → set_of side q ≡ true → set_of (set side r true) q ≡ true
set_of-kept side r q h = elim (cases_eq q r) [
  | inr apart ↦ get_or-set_other side r q true false apart ∙ h
  | inl same ↦ elim (cases_lt q (length side)) [
    | inl within ↦ rw (← same) (get_or-set_same side q true false within)
    | inr past ↦ absurd (false≢true (sym (get_or_past side q false past) ∙ h))
  ]
]

-- And no other.
pub set_of-only : (side : List Bool) (r q : ℕ) → q ≢ r → set_of (set side r true) q ≡ true → set_of side q ≡ true
set_of-only side r q apart h = sym (get_or-set_other side r q true false apart) ∙ h

-- Under a flow, the side of just the routers to which open arcs lead from s is the least side.
pub apart-least : (view : ResidualView) (s t k : ℕ) (reached : List ℕ) (side : List Bool) → IsSound view →
    s < view.net.routers → IsFlow view.net s t view.flow k → IsApart view 1 s t reached →
    ((r : ℕ) → (set_of side r ≡ true) ↔ Contains reached r) → IsLeastSide view.net s t (set_of side) k
apart-least view s t k reached side sound small flow apart held =
    let even : length view.flow ≡ length view.net.links = caps-length view.net.links view.flow sound.within in
    let lacks : set_of side t ≡ false = elim (cases_Bool (set_of side t)) [
      | inl is ↦ absurd (apart.lacks ((held t).0 is))
      | inr not ↦ not
    ] in
    let closed : IsClosed (set_of side) view.net.links view.flow = λ u v in_side leads.
    let arc : OpenArc view 1 u v = leads-arc view u v leads in
    let from : Contains reached u = (held u).0 in_side in
    let to = apart.closed arc.arc arc.within arc.is_open
    (subst (λ (r : ℕ). Contains reached r) (sym arc.tail) from) in
    (held v).1 (subst (λ (r : ℕ). Contains reached r) arc.head to) in
    reached_least view.net sound.limits s t view.flow k small flow (set_of side) ((held s).1 apart.holds) lacks closed
    (λ r below in_side.
    let (arcs, walk) = apart.walks r ((held r).0 in_side) in
    walk-reached view s even arcs r walk)
