-- The arcs that leave a router, as they are listed.
use Rattle.std.proofs.Common.{◌≡◌, ◌≢◌, ℕ, zero, suc, ◌+◌, ◌/◌, ◌%◌, ◌<◌, ◌≤◌, Bool, true}
use Rattle.std.proofs.Common.{List, [], ◌∷◌, length, get_or}
use Rattle.std.proofs.Common.{arith, refl, inl, inr, sym, ap, subst, ◌∙◌, eq-eqb, ne_eqb}
use Rattle.std.specs.Prelude.{◌==◌}
use Rattle.std.specs.List.{All, filter, range_with_len}
use Rattle.std.specs.List.Sorted.{IsStrictlyIncreasing}
use Rattle.std.proofs.lemmas.Bool.{cases_Bool, cases_eq, eqb-true}
use Rattle.std.proofs.lemmas.List.{get_or-map, length-map}
use Rattle.std.proofs.lemmas.List.Elements.{All-nil, All-cons, All-head, All-tail, All-from_get_or}
use Rattle.std.proofs.lemmas.List.FromFn.{length-range_with_len, get_or-range_with_len}
use Rattle.std.proofs.lemmas.List.Kept.{IsStrictlyIncreasing-filter}
use Rattle.std.proofs.lemmas.List.Sums.{length-filter, count_by-le-length}
use Rattle.cut_model.specs.Net.{Net, IsInLimits}
use Rattle.residual_graph.specs.Arcs.{tail_in, head_in, tail_of, head_of, arc_count, arcs_from, no_link}
use Rattle.residual_graph.specs.Places.{IsPlaceOf, no_place, place_of, places_from}

-- a filter keeps each element that passes
filter-keeps : (p : ℕ → Bool) (xs : List ℕ) (k x : ℕ) → k < length xs → get_or xs k 0 ≡ x → p x ≡ true →
    (j : ℕ) × (j < length (filter p xs)) × (get_or (filter p xs) j 0 ≡ x)
filter-keeps p [] k x within e passes = absurd (omega arith)
filter-keeps p (y ∷ ys) zero x within e passes = rw (e, passes) (0, omega arith, refl)
filter-keeps p (y ∷ ys) (suc k) x within e passes =
    let (j, found, same) = filter-keeps p ys k x (omega arith) e passes in
    elim (cases_Bool (p y)) [
      | inl keeps ↦ rw keeps (suc j, omega arith, same)
      | inr drops ↦ rw drops (j, found, same)
    ]

-- each element that a filter keeps passes
filter-all : (p : ℕ → Bool) (P : ℕ → Type 0) (xs : List ℕ) → All P xs → All (λ x. P x × (p x ≡ true)) (filter p xs)
filter-all p P [] all = All-nil (λ x. P x × (p x ≡ true))
filter-all p P (x ∷ xs) all =
    let rest = filter-all p P xs (All-tail P x xs all) in
    elim (cases_Bool (p x)) [
      | inl keeps ↦
          rw keeps (All-cons (λ x. P x × (p x ≡ true)) x (filter p xs) (All-head P x xs all, keeps) rest)
      | inr drops ↦ rw drops rest
    ]

-- the numbers from 0 up to n are below n
range-below : (n : ℕ) → All (λ x. x < n) (range_with_len 0 n)
range-below n = All-from_get_or (λ x. x < n) (range_with_len 0 n) 0 (λ i within.
    let short : i < n = omega (arith, length-range_with_len 0 n) in
    omega (arith, get_or-range_with_len 0 n i 0 short))

-- each listed arc leaves the router
pub listed-leaves : (net : Net) (router k : ℕ) → k < length (arcs_from net router) →
    (get_or (arcs_from net router) k 0 < arc_count net) × (tail_of net (get_or (arcs_from net router) k 0) ≡ router)
unfolding arcs_from
listed-leaves net router k within =
    let both = filter-all (λ arc. tail_in net.links arc == router) (λ arc. arc < arc_count net)
    (range_with_len 0 (arc_count net)) (range-below (arc_count net)) k 0 within in
    (both.0, eqb-true _ _ both.1)

-- each arc that leaves the router is listed
pub leaving-listed : (net : Net) (router arc : ℕ) → arc < arc_count net → tail_of net arc ≡ router →
    (k : ℕ) × (k < length (arcs_from net router)) × (get_or (arcs_from net router) k 0 ≡ arc)
unfolding arcs_from
leaving-listed net router arc within leaves =
    filter-keeps (λ arc. tail_of net arc == router) (range_with_len 0 (arc_count net)) arc arc
    (omega (arith, length-range_with_len 0 (arc_count net)))
    (omega (arith, get_or-range_with_len 0 (arc_count net) arc 0 within))
    (eq-eqb (tail_of net arc) router leaves)

-- numbers that rise by one ascend
ascends_from : (a n : ℕ) → IsStrictlyIncreasing (range_with_len a n)
ascends_from a n = λ k low.
    let here : k < n = omega (arith, length-range_with_len a n) in
    let next : k + 1 < n = omega (arith, length-range_with_len a n) in
    omega (arith, get_or-range_with_len a n k 0 here, get_or-range_with_len a n (k + 1) 0 next)

-- the listed arcs ascend, so that each of them is listed once
pub arcs_ascend : (net : Net) (router : ℕ) → IsStrictlyIncreasing (arcs_from net router)
unfolding arcs_from
arcs_ascend net router =
    IsStrictlyIncreasing-filter (λ arc. tail_of net arc == router) (range_with_len 0 (arc_count net))
    (ascends_from 0 (arc_count net))

-- no more arcs leave a router than there are
pub few_arcs : (net : Net) (router : ℕ) → length (arcs_from net router) ≤ arc_count net
unfolding arcs_from
few_arcs net router =
    omega (
      arith,
      length-filter (λ arc. tail_of net arc == router) (range_with_len 0 (arc_count net)),
      count_by-le-length (λ arc. tail_of net arc == router) (range_with_len 0 (arc_count net)),
      length-range_with_len 0 (arc_count net),
    )

-- the arc there of a link goes to its end b
pub head-even : (net : Net) (arc : ℕ) → arc % 2 ≡ 0 → head_of net arc ≡ (get_or net.links (arc / 2) no_link).b
unfolding head_in
head-even net arc even = rw even refl

-- and the arc back to its end a
pub head-odd : (net : Net) (arc : ℕ) → arc % 2 ≢ 0 → head_of net arc ≡ (get_or net.links (arc / 2) no_link).a
unfolding head_in
head-odd net arc odd = rw (ne_eqb (arc % 2) 0 odd) refl

-- an arc goes to one of the network's routers
pub head_below : (net : Net) → IsInLimits net → (arc : ℕ) → arc < arc_count net
    → head_of net arc < net.routers
unfolding head_in
head_below net limits arc low =
    let link = limits.within (arc / 2) no_link (omega arith) in
    elim (cases_eq (arc % 2) 0) [ inl even ↦ rw even link.b | inr odd ↦ rw (ne_eqb (arc % 2) 0 odd) link.a ]

-- and leaves one
pub tail_below : (net : Net) → IsInLimits net → (arc : ℕ) → arc < arc_count net
    → tail_of net arc < net.routers
unfolding tail_in
tail_below net limits arc low =
    let link = limits.within (arc / 2) no_link (omega arith) in
    elim (cases_eq (arc % 2) 0) [ inl even ↦ rw even link.a | inr odd ↦ rw (ne_eqb (arc % 2) 0 odd) link.b ]

-- ---- the places of a router

-- as many as arcs leave it
pub length-places_from : (net : Net) (router : ℕ) → length (places_from net router) ≡ length (arcs_from net router)
length-places_from net router = length-map (arcs_from net router) (place_of net)

-- each is the place of a listed arc
pub get_or-places_from : (net : Net) (router k : ℕ) → k < length (arcs_from net router)
    → get_or (places_from net router) k no_place ≡ place_of net (get_or (arcs_from net router) k 0)
get_or-places_from net router k within = get_or-map (place_of net) (arcs_from net router) k 0 no_place within

-- each is of an arc that leaves the router
pub each_place : (net : Net) → IsInLimits net → (router : ℕ)
    → All (IsPlaceOf net router) (places_from net router)
each_place net limits router = All-from_get_or (IsPlaceOf net router) (places_from net router) no_place (λ k within.
    let inside : k < length (arcs_from net router) = omega (arith, length-places_from net router) in
    let leaves = listed-leaves net router k inside in
    subst (IsPlaceOf net router) (sym (get_or-places_from net router k inside)) (record {
      arc = leaves.0;
      tail = leaves.1;
      head = refl;
      below = head_below net limits (get_or (arcs_from net router) k 0) leaves.0;
    }))

-- each arc that leaves the router is at a place
pub every_place : (net : Net) (router arc : ℕ) → arc < arc_count net → tail_of net arc ≡ router
    → (k : ℕ) × (k < length (places_from net router)) × (get_or (places_from net router) k no_place ≡ place_of net arc)
every_place net router arc within leaves =
    let (k, inside, is) = leaving-listed net router arc within leaves in (
      k,
      omega (arith, length-places_from net router),
      get_or-places_from net router k inside ∙ ap (place_of net) is,
    )
