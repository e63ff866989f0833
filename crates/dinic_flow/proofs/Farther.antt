-- Once s is spent, each walk to t has more arcs than the levels have steps.
use Rattle.std.proofs.Common.{◌≡◌, ◌≢◌, ℕ, zero, suc, ◌+◌, ◌-◌, ◌*◌, ◌<◌, ◌≤◌, List, [], ◌∷◌, length, get_or, sum}
use Rattle.std.proofs.Common.{ap, subst, arith, refl, inl, inr, mul-le-mul_left}
use Rattle.std.specs.Prelude.{ℤ, pos, ◌≤ℤ◌, ◌<ℤ◌}
use Rattle.std.proofs.lemmas.Int.{ints}
use Rattle.std.proofs.lemmas.Bool.{cases_lt, cases_eq, eq-eqb}
use Rattle.std.proofs.lemmas.List.Sums.{sum_by-cons}
use Rattle.cut_model.specs.Net.{Net}
use Rattle.residual_graph.specs.declared.place.Place.{Place}
use Rattle.residual_graph.specs.Arcs.{arc_count}
use Rattle.residual_graph.specs.Places.{begin_of, place_at}
use Rattle.residual_graph.specs.View.{ResidualView, IsSound}
use Rattle.residual_graph.proofs.ByPlace.{arc-between, begin-zero, begin-next, begin-end}
use Rattle.dinic_flow.specs.Levels.{OpenArc, Walk, IsFartherThan, height, IsLevelled}
use Rattle.dinic_flow.specs.Phases.{Moment, Aim, Rises, IsSpent, IsBlocked, IsPhase, AreBegun, Tally, Costs}
use Rattle.dinic_flow.proofs.Relays.{height-label}

-- The levels of a phase, in a residual graph.
abbrev HasLevels : Aim → ResidualView → Type 0
HasLevels aim view = IsLevelled view aim.threshold aim.t aim.label

-- An open arc rises by one level at most.
arc-rises : (aim : Aim) (view : ResidualView) (levelled : HasLevels aim view) (u v : ℕ) →
    OpenArc view aim.threshold u v → height levelled.mid aim.label v ≤ height levelled.mid aim.label u + 1
arc-rises aim view levelled u v arc = rw (arc.tail, arc.head) at (levelled.rises arc.arc arc.within arc.is_open)

-- One that leaves a router without a label doesn't rise.
arc-stays : (aim : Aim) (view : ResidualView) (levelled : HasLevels aim view) (u v : ℕ) →
    OpenArc view aim.threshold u v → get_or aim.label u 0 ≡ 0 → height levelled.mid aim.label v ≤ levelled.mid
arc-stays aim view levelled u v arc none =
    rw arc.head at (levelled.stays arc.arc arc.within arc.is_open (rw arc.tail none))

-- A walk to t has as many arcs as it is high, or more.
climbs : (aim : Aim) (view : ResidualView) (levelled : HasLevels aim view) → 0 < get_or aim.label aim.t 0 →
    (arcs u : ℕ) → Walk view aim.threshold arcs u aim.t →
    get_or aim.label aim.t 0 ≤ height levelled.mid aim.label u + arcs
climbs aim view levelled some zero u is =
    omega (
      arith,
      height-label levelled.mid aim.label aim.t some,
      ap (λ (r : ℕ). height levelled.mid aim.label r) is,
    )
climbs aim view levelled some (suc arcs) u (w, arc, rest) =
    omega (arith, climbs aim view levelled some arcs w rest, arc-rises aim view levelled u w arc)

-- A router without a label is at the middle height.
height-none : (mid : ℕ) (label : List ℕ) (r : ℕ) → get_or label r 0 ≡ 0 → height mid label r ≡ mid
height-none mid label r none = rw (eq-eqb (get_or label r 0) 0 none) refl

-- On a walk to t that rises by one level at each arc, each router has a label.
labelled : (aim : Aim) (view : ResidualView) (levelled : HasLevels aim view) → 0 < get_or aim.label aim.t 0 →
    (arcs u : ℕ) → Walk view aim.threshold arcs u aim.t →
    get_or aim.label aim.t 0 ≡ height levelled.mid aim.label u + arcs → 0 < get_or aim.label u 0
labelled aim view levelled some zero u is steep = omega (arith, some, ap (λ (r : ℕ). get_or aim.label r 0) is)
labelled aim view levelled some (suc arcs) u (w, arc, rest) steep = elim (cases_eq (get_or aim.label u 0) 0) [
  | inr ne ↦ omega arith
  | inl none ↦ absurd (omega (
    arith,
    climbs aim view levelled some arcs w rest,
    arc-stays aim view levelled u w arc none,
    height-none levelled.mid aim.label u none,
    steep,
  ))
]

-- No arc is both closed and open.
closed-open : (x : ℤ) (threshold : ℕ) → x <ℤ pos threshold → pos threshold ≤ℤ x → ⊥
closed-open x threshold below above = omega (arith, ints, below, above)

-- From a spent router no walk to t rises by one level at each arc.
stuck : (aim : Aim) (now : Moment) (phase : IsPhase aim now) → 0 < get_or aim.label aim.t 0 →
    (arcs u : ℕ) → Walk now.view aim.threshold arcs u aim.t →
    get_or aim.label aim.t 0 ≡ height phase.levelled.mid aim.label u + arcs → u ≢ aim.t →
    IsSpent now.view.net now.cursor u → ⊥
stuck aim now phase some zero u is steep apart spent = apart is
stuck aim now phase some (suc arcs) u (w, arc, rest) steep apart spent =
    let view : ResidualView = now.view in
    let label : List ℕ = aim.label in
    let mid : ℕ = phase.levelled.mid in
    let above = climbs aim view phase.levelled some arcs w rest in
    let below = arc-rises aim view phase.levelled u w arc in
    let steep_on : get_or label aim.t 0 ≡ height mid label w + arcs = omega (arith, above, below, steep) in
    let here = labelled aim view phase.levelled some (suc arcs) u (w, arc, rest) steep in
    let low = height-label mid label u here in
    let high = height-label mid label w (labelled aim view phase.levelled some arcs w rest steep_on) in
    let on : get_or label w 0 ≡ get_or label u 0 + 1 = omega (arith, low, high, steep, steep_on) in
    let leads : Rises view.net label arc.arc = rw (arc.tail, arc.head) on in
    let (at, from, to, is) = arc-between view.net phase.sound.limits arc.arc arc.within in
    let start : begin_of view.net u ≤ at = rw arc.tail at from in
    let passed : at < get_or now.cursor u 0 = omega (arith, rw arc.tail at to, spent) in
    let was : IsBlocked aim now (place_at view.net at).arc = phase.come.blocked u here at start passed in
    let is_arc : (place_at view.net at).arc ≡ arc.arc = ap (λ (p : Place). p.arc) is in
    elim (subst (λ (x : ℕ). IsBlocked aim now x) is_arc was leads) [
      | inl closed ↦ closed-open _ aim.threshold closed arc.is_open
      | inr other ↦
          let next : (w ≢ aim.t) × IsSpent view.net now.cursor w = rw arc.head at other in
          stuck aim now phase some arcs w rest steep_on next.0 next.1
    ]

-- Once s is spent, each walk from s to t has more arcs than there are levels above s.
pub farther : (aim : Aim) (now : Moment) (s : ℕ) → IsPhase aim now →
    get_or aim.label s 0 ≡ 1 → s ≢ aim.t → IsSpent now.view.net now.cursor s →
    IsFartherThan now.view aim.threshold s aim.t (get_or aim.label aim.t 0 - 1)
farther aim now s phase start apart spent arcs walk =
    let label : List ℕ = aim.label in
    let some : 0 < get_or label aim.t 0 = omega (arith, phase.levelled.most s, start) in
    let low = height-label phase.levelled.mid label s (omega arith) in
    let above = climbs aim now.view phase.levelled some arcs s walk in
    elim (cases_lt (get_or label aim.t 0 - 1) arcs) [
      | inl less ↦ less
      | inr short ↦
          let steep : get_or label aim.t 0 ≡ height phase.levelled.mid label s + arcs =
          omega (arith, above, short, low) in
          absurd (stuck aim now phase some arcs s walk steep apart spent)
    ]

-- ---- where a phase begins, and what all of it costs

-- Cursors at the first place of each router with a label are a state of a phase.
pub phase-begun : (aim : Aim) (now : Moment) → IsSound now.view →
    HasLevels aim now.view → 0 < get_or aim.label aim.t 0 → length now.cursor ≡ now.view.net.routers →
    AreBegun now.view.net aim.label now.cursor → IsPhase aim now
phase-begun aim now sound levelled some size begun = record {
  sound = sound;
  levelled = levelled;
  come = record {
    size = size;
    fresh = begun aim.t some;
    above = λ r labelled. omega (arith, begun r labelled);
    below = λ r labelled. omega (arith, begun r labelled, begin-next now.view.net r);
    blocked = λ r labelled at low high. absurd (omega (arith, begun r labelled, high));
  };
}

-- Numbers that each move by no more than the step between two others have a sum that moves by the last less the first.
sums-step : (f : ℕ → ℕ) (old new : List ℕ) (from : ℕ) → length old ≡ length new →
    ((i : ℕ) → i < length old → get_or new i 0 + f (from + i) ≤ get_or old i 0 + f (from + i + 1)) →
    sum new + f from ≤ sum old + f (from + length old)
sums-step f [] [] from long steps = let same : from + 0 ≡ from = omega arith in rw same (omega arith)
sums-step f [] (y ∷ ys) from long steps = absurd (omega arith)
sums-step f (x ∷ xs) [] from long steps = absurd (omega arith)
sums-step f (x ∷ xs) (y ∷ ys) from long steps =
    let at : from + 0 ≡ from = omega arith in
    let first : y + f from ≤ x + f (from + 1) =
    subst (λ (n : ℕ). y + f n ≤ x + f (n + 1)) at (steps 0 (omega arith)) in
    let rest = sums-step f xs ys (from + 1) (omega arith)
    (λ i within.
    let same : from + suc i ≡ from + 1 + i = omega arith in
    subst (λ (n : ℕ). get_or ys i 0 + f n ≤ get_or xs i 0 + f (n + 1)) same (steps (suc i) (omega arith))) in
    let end : from + 1 + length xs ≡ from + suc (length xs) = omega arith in
    omega (arith, sum_by-cons (λ n. n) x xs, sum_by-cons (λ n. n) y ys, first, rw end at rest)

-- The cursors of routers without a label stay, from one moment to another.
abbrev pub OthersStay : Aim → List ℕ → List ℕ → Type 0
OthersStay aim old new = (r : ℕ) → get_or aim.label r 0 ≡ 0 → get_or new r 0 ≡ get_or old r 0

-- All cursors together move by the number of arcs at most.
pub cursors-move : (aim : Aim) (now : Moment) (old : List ℕ) →
    IsPhase aim now → length old ≡ now.view.net.routers →
    AreBegun now.view.net aim.label old → OthersStay aim old now.cursor →
    sum now.cursor ≤ sum old + arc_count now.view.net
cursors-move aim now old phase size begun stay =
    let net : Net = now.view.net in
    let step : (r : ℕ) → get_or now.cursor r 0 + begin_of net r ≤ get_or old r 0 + begin_of net (r + 1) =
    λ r. elim (cases_lt 0 (get_or aim.label r 0)) [
      | inl some ↦ omega (arith, begun r some, phase.come.below r some)
      | inr none ↦ omega (arith, stay r (omega arith), begin-next net r)
    ] in
    let all = sums-step (begin_of net) old now.cursor 0 (omega (arith, size, phase.come.size))
    (λ i _. let same : 0 + i ≡ i = omega arith in rw same (step i)) in
    let end : 0 + length old ≡ net.routers = omega (arith, size) in
    omega (arith, rw end at all, begin-zero net, begin-end net phase.sound.limits)

-- So a phase costs two steps for each arc and once more, at each level.
pub phase-pays : (levels arcs : ℕ) (before after : Tally) → after.places ≤ before.places + arcs →
    Costs levels before after → after.steps ≤ before.steps + 2 * (levels * (arcs + 1))
phase-pays levels arcs before after moved paid =
    let more : levels * after.places ≤ levels * (before.places + arcs) = mul-le-mul_left levels moved in
    omega (arith, paid, more)
