-- What the stored lists say of the network and the flow that contracts see.
use Rattle.std.proofs.Common.{◌≡◌, ℕ, suc, ◌+◌, ◌*◌, ◌/◌, ◌%◌, ◌<◌, ◌≤◌, List, [], ◌∷◌, length}
use Rattle.std.proofs.Common.{get_or, map, sym, ap, subst, inl, inr, ◌⊎◌, arith}
use Rattle.std.specs.Prelude.{ℤ, pos, ◌+ℤ◌, ◌-ℤ◌, nat_abs}
use Rattle.std.specs.List.{range_with_len}
use Rattle.std.proofs.lemmas.Bool.{cases_eq}
use Rattle.std.proofs.lemmas.Int.{ints}
use Rattle.std.proofs.lemmas.List.FromFn.{length-map-range_with_len, get_or-map-range_with_len}
use Rattle.cut_model.specs.declared.network.Link.{Link}
use Rattle.cut_model.specs.Flow.{IsWithinCaps}
use Rattle.residual_graph.specs.Arcs.{no_link, arc_count}
use Rattle.residual_graph.specs.View.{ResidualView, left_on}
use Rattle.residual_graph.specs.Storage.{Lists, flow_at, flows_at, net_in, view_of, ArePairs}

-- ---- the flows

-- there is one for each link
pub length-flows_at : (links : List Link) (left : List ℕ) → length (flows_at links left) ≡ length links
unfolding flows_at
length-flows_at links left = length-map-range_with_len (flow_at links left) 0 (length links)

-- and it is that link's
pub get_or-flows_at : (links : List Link) (left : List ℕ) (i : ℕ) → i < length links
    → get_or (flows_at links left) i (pos 0) ≡ flow_at links left i
unfolding flows_at
get_or-flows_at links left i low =
    get_or-map-range_with_len (flow_at links left) 0 (length links) i i (pos 0) low (omega arith)

-- ---- what is left on an arc

-- the capacity less the flow is what is left there
left_there : (c x : ℕ) → (pos c -ℤ (pos c -ℤ pos x)) ≡ pos x
left_there c x = omega (arith, ints)

-- and the capacity more by it is what is left back
left_back : (c x y : ℕ) → x + y ≡ 2 * c → (pos c +ℤ (pos c -ℤ pos x)) ≡ pos y
left_back c x y both = omega (arith, ints)

-- so the stored number is what is left on the arc there
left_on-there : (lists : Lists) (i : ℕ) → i < length (net_in lists).links
    → left_on (view_of lists) (2 * i) ≡ pos (get_or lists.left (2 * i) 0)
unfolding view_of left_on
left_on-there lists i low =
    let links = (net_in lists).links in
    let even : 2 * i % 2 ≡ 0 = omega arith in
    let half : 2 * i / 2 ≡ i = omega arith in
    rw (even, half, get_or-flows_at links lists.left i low)
    (left_there (get_or links i no_link).cap (get_or lists.left (2 * i) 0))

-- and on the arc back
left_on-back : (lists : Lists) → ArePairs (net_in lists).links lists.left → (i : ℕ)
    → i < length (net_in lists).links → left_on (view_of lists) (2 * i + 1) ≡ pos (get_or lists.left (2 * i + 1) 0)
unfolding view_of left_on
left_on-back lists pairs i low =
    let links = (net_in lists).links in
    let odd : (2 * i + 1) % 2 ≡ 1 = omega arith in
    let half : (2 * i + 1) / 2 ≡ i = omega arith in
    rw (odd, half, get_or-flows_at links lists.left i low)
    (left_back (get_or links i no_link).cap (get_or lists.left (2 * i) 0) (get_or lists.left (2 * i + 1) 0)
    (pairs i low))

-- an arc is the one there or the one back of its link
pub there_or_back : (arc : ℕ) → (arc ≡ 2 * (arc / 2)) ⊎ (arc ≡ 2 * (arc / 2) + 1)
there_or_back arc = elim (cases_eq (arc % 2) 0) [ inl even ↦ inl (omega arith) | inr odd ↦ inr (omega arith) ]

-- so it is on each arc
pub left_is : (lists : Lists) → ArePairs (net_in lists).links lists.left → (arc : ℕ) → arc < arc_count (net_in lists)
    → left_on (view_of lists) arc ≡ pos (get_or lists.left arc 0)
left_is lists pairs arc low = elim (there_or_back arc) [
  | inl there ↦
      subst (λ k. left_on (view_of lists) k ≡ pos (get_or lists.left k 0)) (sym there)
      (left_on-there lists (arc / 2) (omega arith))
  | inr back ↦
      subst (λ k. left_on (view_of lists) k ≡ pos (get_or lists.left k 0)) (sym back)
      (left_on-back lists pairs (arc / 2) (omega arith))
]

-- ---- the flow is within the capacities

-- link by link
within_by : (f : List Link) (g : ℕ → ℤ) (a : ℕ)
    → ((i : ℕ) → i < length f → nat_abs (g (a + i)) ≤ (get_or f i no_link).cap)
    → IsWithinCaps f (map g (range_with_len a (length f)))
within_by [] g a each = tt
within_by (link ∷ links) g a each =
    let first : a + 0 ≡ a = omega arith in (
      rw first at (each 0 (omega arith)),
      within_by links g (a + 1) (λ i low.
          let next : a + suc i ≡ a + 1 + i = omega arith in
          rw next at (each (suc i) (omega arith))),
    )

-- a flow that leaves what is stored is at most the capacity
abs_within : (c x y : ℕ) → x + y ≡ 2 * c → nat_abs (pos c -ℤ pos x) ≤ c
abs_within c x y both = omega (arith, ints)

-- so all flows are within the capacities
pub flows_within : (links : List Link) (left : List ℕ) → ArePairs links left → IsWithinCaps links (flows_at links left)
unfolding flows_at
flows_within links left pairs =
    within_by links (flow_at links left) 0 (λ i low.
    let same : 0 + i ≡ i = omega arith in
    rw same (abs_within (get_or links i no_link).cap (get_or left (2 * i) 0) (get_or left (2 * i + 1) 0)
    (pairs i low)))

-- ---- the parts of a view

-- its network
pub net_is : (lists : Lists) (view : ResidualView) → view_of lists ≡ view → net_in lists ≡ view.net
unfolding view_of
net_is lists view e = ap (λ (v : ResidualView). v.net) e

-- its flow
pub flow_is : (lists : Lists) (view : ResidualView) → view_of lists ≡ view
    → flows_at (net_in lists).links lists.left ≡ view.flow
unfolding view_of
flow_is lists view e = ap (λ (v : ResidualView). v.flow) e

-- its room
pub rooms_are : (lists : Lists) (view : ResidualView) → view_of lists ≡ view
    → (lists.room_routers ≡ view.room_routers) × (lists.room_links ≡ view.room_links)
unfolding view_of
rooms_are lists view e = (ap (λ (v : ResidualView). v.room_routers) e, ap (λ (v : ResidualView). v.room_links) e)
