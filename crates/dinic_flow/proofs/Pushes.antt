-- What a push on one arc changes.
use Rattle.std.proofs.Common.{◌≡◌, ◌≢◌, ℕ, zero, suc, ◌/◌, ◌%◌, ◌<◌, Bool, true, false, not, cond}
use Rattle.std.proofs.Common.{List, [], ◌∷◌, length, get_or, set, get_or-set_same, get_or-set_other}
use Rattle.std.proofs.Common.{◌∙◌, ap, arith, refl, inl, inr}
use Rattle.std.proofs.lemmas.List.{set-get_or}
use Rattle.std.specs.Prelude.{◌==◌, ℤ, pos, ◌+ℤ◌, ◌-ℤ◌, neg_ℤ}
use Rattle.std.proofs.lemmas.Int.{ints}
use Rattle.std.proofs.lemmas.Bool.{cases_Bool, cases_eq, eq-eqb, ne_eqb}
use Rattle.cut_model.specs.declared.network.Link.{Link}
use Rattle.cut_model.specs.Net.{Net}
use Rattle.cut_model.specs.Flow.{sends, out, IsWithinCaps}
use Rattle.residual_graph.specs.Arcs.{link_of, tail_in, head_in, tail_of, head_of, arc_count}
use Rattle.residual_graph.specs.View.{ResidualView, left_on, pushed}
use Rattle.dinic_flow.specs.Sending.{SendsMore}

-- A flow within the capacities has one number for each link.
pub caps-length : (links : List Link) (flow : List ℤ) → IsWithinCaps links flow → length flow ≡ length links
caps-length [] [] within = refl
caps-length [] (x ∷ flow) within = absurd within
caps-length (l ∷ links) [] within = absurd within
caps-length (l ∷ links) (x ∷ flow) within = omega (arith, caps-length links flow within.1)

-- What a router sends into a link is additive in the link's flow.
sends-add : (from to : Bool) (x y : ℤ) →
    (cond from (x +ℤ y) (pos 0) -ℤ cond to (x +ℤ y) (pos 0))
    ≡ ((cond from x (pos 0) -ℤ cond to x (pos 0)) +ℤ (cond from y (pos 0) -ℤ cond to y (pos 0)))
sends-add true true x y = omega (arith, ints)
sends-add true false x y = omega (arith, ints)
sends-add false true x y = omega (arith, ints)
sends-add false false x y = omega (arith, ints)

-- With y more on one link, a router sends out in addition what it sends into that link for y.
out-set : (r : ℕ) (links : List Link) (flow : List ℤ) (i : ℕ) (d : Link) (y : ℤ) →
    i < length links → length flow ≡ length links →
    out r links (set flow i (get_or flow i (pos 0) +ℤ y)) ≡ (out r links flow +ℤ sends r (get_or links i d) y)
out-set r [] flow i d y within even = absurd (omega arith)
out-set r (l ∷ links) [] i d y within even = absurd (omega arith)
out-set r (l ∷ links) (x ∷ flow) zero d y within even =
    omega (arith, ints, sends-add (l.a == r) (l.b == r) x y)
out-set r (l ∷ links) (x ∷ flow) (suc i) d y within even =
    omega (arith, ints, out-set r links flow i d y (omega arith) (omega arith))

-- An amount from end a to end b is sent by a, and lost by b.
sends-forth : (from to : Bool) (o : ℤ) (amount : ℕ) →
    (o +ℤ (cond from (pos amount) (pos 0) -ℤ cond to (pos amount) (pos 0)))
    ≡ ((o +ℤ cond from (pos amount) (pos 0)) -ℤ cond to (pos amount) (pos 0))
sends-forth true true o amount = omega (arith, ints)
sends-forth true false o amount = omega (arith, ints)
sends-forth false true o amount = omega (arith, ints)
sends-forth false false o amount = omega (arith, ints)

-- An amount the other way is sent by b, and lost by a.
sends-back : (from to : Bool) (o : ℤ) (amount : ℕ) →
    (o +ℤ (cond from (neg_ℤ (pos amount)) (pos 0) -ℤ cond to (neg_ℤ (pos amount)) (pos 0)))
    ≡ ((o +ℤ cond to (pos amount) (pos 0)) -ℤ cond from (pos amount) (pos 0))
sends-back true true o amount = omega (arith, ints)
sends-back true false o amount = omega (arith, ints)
sends-back false true o amount = omega (arith, ints)
sends-back false false o amount = omega (arith, ints)

-- A push on an arc sends the amount from the arc's tail to its head.
pub out-pushed : (net : Net) (flow : List ℤ) (arc amount : ℕ) →
    arc < arc_count net → length flow ≡ length net.links →
    SendsMore net.links flow (pushed flow arc amount) (tail_of net arc) (head_of net arc) amount
unfolding pushed tail_in head_in
out-pushed net flow arc amount within even r =
    let none : Link = record { a = 0; b = 0; cap = 0 } in
    let link : Link = link_of net.links arc in
    let half : arc / 2 < length net.links = omega arith in
    elim (cases_Bool (arc % 2 == 0)) [
      | inl e ↦ rw e (out-set r net.links flow (arc / 2) none (pos amount) half even
          ∙ sends-forth (link.a == r) (link.b == r) (out r net.links flow) amount)
      | inr e ↦ rw e (out-set r net.links flow (arc / 2) none (neg_ℤ (pos amount)) half even
          ∙ sends-back (link.a == r) (link.b == r) (out r net.links flow) amount)
    ]

-- What is left on an arc falls by the amount that is pushed on it.
left-own : (forth : Bool) (cap : ℕ) (x : ℤ) (amount : ℕ) →
    cond forth
    (pos cap -ℤ (x +ℤ cond forth (pos amount) (neg_ℤ (pos amount))))
    (pos cap +ℤ (x +ℤ cond forth (pos amount) (neg_ℤ (pos amount))))
    ≡ (cond forth (pos cap -ℤ x) (pos cap +ℤ x) -ℤ pos amount)
left-own true cap x amount = omega (arith, ints)
left-own false cap x amount = omega (arith, ints)

-- So a push takes the amount from its own arc.
pub left-pushed : (before after : ResidualView) (arc amount : ℕ) →
    after.net ≡ before.net → after.flow ≡ pushed before.flow arc amount → arc / 2 < length before.flow →
    left_on after arc ≡ (left_on before arc -ℤ pos amount)
unfolding pushed left_on
left-pushed before after arc amount same e within =
    rw (same, e, get_or-set_same before.flow (arc / 2) _ (pos 0) within)
    (left-own (arc % 2 == 0) (link_of before.net.links arc).cap (get_or before.flow (arc / 2) (pos 0)) amount)

-- A push changes nothing on the arcs of other links.
pub left-apart : (before after : ResidualView) (arc amount other : ℕ) →
    after.net ≡ before.net → after.flow ≡ pushed before.flow arc amount → other / 2 ≢ arc / 2 →
    left_on after other ≡ left_on before other
unfolding pushed left_on
left-apart before after arc amount other same e apart =
    rw (same, e, get_or-set_other before.flow (arc / 2) (other / 2) _ (pos 0) apart) refl

-- The two arcs of a link differ in their direction.
twins-differ : (other arc : ℕ) → other / 2 ≡ arc / 2 → other ≢ arc → (other % 2 == 0) ≡ not (arc % 2 == 0)
twins-differ other arc same ne = elim (cases_eq (arc % 2) 0) [
  | inl e ↦ rw (e, ne_eqb (other % 2) 0 (λ z. ne (omega arith))) refl
  | inr odd ↦ rw (ne_eqb (arc % 2) 0 odd, eq-eqb (other % 2) 0 (omega arith)) refl
]

-- An arc of a link that isn't the one is the other: its tail is the head of the one, and its head the tail.
pub record IsTwin (net : Net) (other arc : ℕ) : Type 0 where
  pub tail : tail_of net other ≡ head_of net arc
  pub head : head_of net other ≡ tail_of net arc

-- The ends of an arc and of its twin.
ends-turned : (forth : Bool) (a b : ℕ) →
    (cond (not forth) a b ≡ cond forth b a) × (cond (not forth) b a ≡ cond forth a b)
ends-turned true a b = (refl, refl)
ends-turned false a b = (refl, refl)

-- Another arc of the same link is that.
pub twins : (net : Net) (other arc : ℕ) → other / 2 ≡ arc / 2 → other ≢ arc → IsTwin net other arc
unfolding tail_in head_in
twins net other arc same ne =
    let link : Link = link_of net.links arc in
    let both = ends-turned (arc % 2 == 0) link.a link.b in
    record {
      tail = rw (twins-differ other arc same ne, same) both.0;
      head = rw (twins-differ other arc same ne, same) both.1;
    }

-- Nothing along an arc leaves a flow as it is.
along-none : (forth : Bool) (x : ℤ) → (x +ℤ cond forth (pos 0) (neg_ℤ (pos 0))) ≡ x
along-none true x = omega (arith, ints)
along-none false x = omega (arith, ints)

-- A push of nothing changes nothing.
pub pushed-none : (flow : List ℤ) (arc : ℕ) → pushed flow arc 0 ≡ flow
unfolding pushed
pushed-none flow arc =
    ap (set flow (arc / 2)) (along-none (arc % 2 == 0) (get_or flow (arc / 2) (pos 0)))
    ∙ set-get_or flow (arc / 2) (pos 0)
