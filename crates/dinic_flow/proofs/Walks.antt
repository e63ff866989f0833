-- Walks that are joined, and arcs that are followed either way.
use Rattle.std.proofs.Common.{◌≡◌, ℕ, zero, suc, ◌+◌, ◌-◌, ◌/◌, ◌%◌, ◌<◌, ◌≤◌, Bool, true, false}
use Rattle.std.proofs.Common.{sym, ◌∙◌, subst, arith, refl, inl, inr, eq-eqb}
use Rattle.std.specs.Prelude.{◌==◌, ℤ, pos, ◌≤ℤ◌}
use Rattle.std.proofs.lemmas.Int.{ints}
use Rattle.std.proofs.lemmas.Bool.{cases_eq, ne_eqb}
use Rattle.cut_model.specs.Net.{Net}
use Rattle.residual_graph.specs.Arcs.{tail_in, head_in, tail_of, head_of, arc_count, twin, turned}
use Rattle.residual_graph.specs.View.{ResidualView}
use Rattle.dinic_flow.specs.Levels.{IsOpen, OpenArc, Walk}
use Rattle.dinic_flow.specs.Balls.{Search, LeadsOn, WalksOn}

-- Two walks, one behind the other, are one.
pub walk-append : (view : ResidualView) (threshold : ℕ) (first second : ℕ) (u v w : ℕ) →
    Walk view threshold first u v → Walk view threshold second v w → Walk view threshold (first + second) u w
walk-append view threshold zero second u v w same rest =
    let none : second ≡ 0 + second = omega arith in
    subst (λ (n : ℕ). Walk view threshold n u w) none (subst (λ (r : ℕ). Walk view threshold second r w)
    (sym same) rest)
walk-append view threshold (suc first) second u v w (next, arc, walk) rest =
    let joined : Walk view threshold (suc (first + second)) u w =
    (next, arc, walk-append view threshold first second next v w walk rest) in
    let more : suc (first + second) ≡ suc first + second = omega arith in
    subst (λ (n : ℕ). Walk view threshold n u w) more joined

-- An open arc is a walk.
pub walk-arc : (view : ResidualView) (threshold : ℕ) (u v : ℕ) → OpenArc view threshold u v → Walk view threshold 1 u v
walk-arc view threshold u v arc = (v, arc, refl)

-- A walk goes on over one arc more.
pub walks-more : (search : Search) (back : Bool) (arcs u v w : ℕ) →
    WalksOn search back arcs u v → LeadsOn search back v w → WalksOn search back (arcs + 1) u w
walks-more search false arcs u v w walk arc =
    walk-append search.view search.threshold arcs 1 u v w walk (walk-arc search.view search.threshold v w arc)
walks-more search true arcs u v w walk arc =
    let joined : Walk search.view search.threshold (suc arcs) w u = (v, arc, walk) in
    let more : suc arcs ≡ arcs + 1 = omega arith in
    subst (λ (n : ℕ). Walk search.view search.threshold n w u) more joined

-- A walk of no arc stays where it is.
pub walks-none : (search : Search) (back : Bool) (u v : ℕ) → WalksOn search back 0 u v → u ≡ v
walks-none search false u v walk = walk
walks-none search true u v walk = sym walk

-- A walk of no arc leads from each router to itself.
pub walks-still : (search : Search) (back : Bool) (u : ℕ) → WalksOn search back 0 u u
walks-still search false u = refl
walks-still search true u = refl

-- An arc's twin is an arc of the same link the other way, whose twin is the arc.
pub record IsTwin (net : Net) (arc back : ℕ) : Type 0 where
  pub within : back < arc_count net
  pub tail : tail_of net back ≡ head_of net arc
  pub head : head_of net back ≡ tail_of net arc
  pub again : twin back ≡ arc

-- The twin of an arc of even number is the next.
even-twin : (net : Net) (arc : ℕ) → arc < arc_count net → arc % 2 ≡ 0 → IsTwin net arc (twin arc)
unfolding tail_in head_in twin
even-twin net arc within even =
    let is_even : (arc % 2 == 0) ≡ true = eq-eqb (arc % 2) 0 even in
    let odd : ((arc + 1) % 2 == 0) ≡ false = ne_eqb ((arc + 1) % 2) 0 (λ e. omega arith) in
    let half : (arc + 1) / 2 ≡ arc / 2 = omega arith in
    let there : (arc + 1) - 1 ≡ arc = omega arith in
    record {
      within = rw is_even (omega arith);
      tail = rw (is_even, odd, half) refl;
      head = rw (is_even, odd, half) refl;
      again = rw (is_even, odd) there;
    }

-- The twin of an arc of odd number is the one before.
odd-twin : (net : Net) (arc : ℕ) → arc < arc_count net → arc % 2 ≡ 1 → IsTwin net arc (twin arc)
unfolding tail_in head_in twin
odd-twin net arc within odd =
    let is_odd : (arc % 2 == 0) ≡ false = ne_eqb (arc % 2) 0 (λ e. omega arith) in
    let even : ((arc - 1) % 2 == 0) ≡ true = eq-eqb ((arc - 1) % 2) 0 (omega arith) in
    let half : (arc - 1) / 2 ≡ arc / 2 = omega arith in
    let there : (arc - 1) + 1 ≡ arc = omega arith in
    record {
      within = rw is_odd (omega arith);
      tail = rw (is_odd, even, half) refl;
      head = rw (is_odd, even, half) refl;
      again = rw (is_odd, even) there;
    }

-- Each arc has its twin.
is-twin : (net : Net) (arc : ℕ) → arc < arc_count net → IsTwin net arc (twin arc)
is-twin net arc within = elim (cases_eq (arc % 2) 0) [
  | inl even ↦ even-twin net arc within even
  | inr odd ↦ odd-twin net arc within (omega (arith, odd))
]

-- An arc leads on from its tail to its head, if it is open the way that is followed.
pub leads-along : (search : Search) (back : Bool) (arc : ℕ) → arc < arc_count search.view.net →
    IsOpen search.view search.threshold (turned back arc) →
    LeadsOn search back (tail_of search.view.net arc) (head_of search.view.net arc)
leads-along search false arc within is_open =
    record { arc = arc; within = within; tail = refl; head = refl; is_open = is_open }
leads-along search true arc within is_open =
    let other : IsTwin search.view.net arc (twin arc) = is-twin search.view.net arc within in
    record { arc = twin arc; within = other.within; tail = other.tail; head = other.head; is_open = is_open }

-- An arc from u to v that is open the way that is followed.
pub record ArcAlong (search : Search) (back : Bool) (u v : ℕ) : Type 0 where
  pub arc : ℕ
  pub within : arc < arc_count search.view.net
  pub tail : tail_of search.view.net arc ≡ u
  pub head : head_of search.view.net arc ≡ v
  pub is_open : IsOpen search.view search.threshold (turned back arc)

-- Where an open arc leads on from u to v, there is such an arc from u to v.
pub arc-along : (search : Search) (back : Bool) (u v : ℕ) → LeadsOn search back u v → ArcAlong search back u v
arc-along search false u v arc =
    record { arc = arc.arc; within = arc.within; tail = arc.tail; head = arc.head; is_open = arc.is_open }
arc-along search true u v arc =
    let other : IsTwin search.view.net arc.arc (twin arc.arc) = is-twin search.view.net arc.arc arc.within in
    record {
      arc = twin arc.arc;
      within = other.within;
      tail = other.tail ∙ arc.head;
      head = other.head ∙ arc.tail;
      is_open = rw other.again arc.is_open;
    }

-- Where at least so much is left, an arc is open.
pub open-left : (threshold x : ℕ) (z : ℤ) → pos x ≡ z → threshold ≤ x → pos threshold ≤ℤ z
open-left threshold x z is enough = omega (arith, ints, is, enough)
