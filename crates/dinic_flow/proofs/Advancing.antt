-- A router's cursor that moves on.
use Rattle.std.proofs.Common.{◌≡◌, ◌≢◌, ℕ, suc, ◌+◌, ◌-◌, ◌/◌, ◌%◌, ◌<◌, ◌≤◌, true, false}
use Rattle.std.proofs.Common.{List, [], ◌∷◌, length, get_or, set, sum}
use Rattle.std.specs.Prelude.{◌==◌}
use Rattle.std.proofs.Common.{sym, ◌∙◌, ap, subst, arith, refl, inl, inr}
use Rattle.std.proofs.lemmas.Bool.{cases_eq, cases_lt, eq-eqb, ne_eqb}
use Rattle.std.proofs.lemmas.List.{length-set, get_or-set_same, get_or-set_other}
use Rattle.std.proofs.lemmas.List.Sums.{sum_by-set, sum_by-cons}
use Rattle.cut_model.specs.Net.{Net}
use Rattle.residual_graph.specs.Arcs.{tail_in, head_in, tail_of, head_of, arc_count, twin}
use Rattle.residual_graph.specs.Places.{begin_of, place_at}
use Rattle.residual_graph.specs.View.{ResidualView}
use Rattle.residual_graph.proofs.ByPlace.{arc-between}
use Rattle.dinic_flow.specs.Levels.{IsLevelled}
use Rattle.dinic_flow.specs.Phases.{Moment, moment_of, Aim, Rises, IsSpent, IsBlocked}
use Rattle.dinic_flow.specs.Phases.{AreBlocked, IsPhase, Sends}

-- A cursor that is put elsewhere is there, and every other one where it was.
cursor-moved : (cursor : List ℕ) (router v r : ℕ) → router < length cursor → get_or cursor router 0 ≤ v →
    (get_or cursor r 0 ≤ get_or (set cursor router v) r 0)
    × (r ≢ router → get_or (set cursor router v) r 0 ≡ get_or cursor r 0)
cursor-moved cursor router v r within later = elim (cases_eq r router) [
  | inl same ↦ (
    omega (
      arith,
      ap (λ (x : ℕ). get_or cursor x 0) same,
      ap (λ (x : ℕ). get_or (set cursor router v) x 0) same,
      get_or-set_same cursor router v 0 within,
    ),
    λ apart. absurd (apart same),
  )
  | inr apart ↦
      let other = get_or-set_other cursor router r v 0 apart in
      (omega (arith, other), λ _. other)
]

-- An arc that doesn't lead on is blocked.
pub blocked-level : (aim : Aim) (now : Moment) (arc : ℕ) → (Rises now.view.net aim.label arc → ⊥) →
    IsBlocked aim now arc
blocked-level aim now arc level leads = absurd (level leads)

-- A router that was spent stays so, if no cursor goes past a router's arcs.
blocked-moved : (aim : Aim) (now : Moment) (new : List ℕ) (arc : ℕ) →
    (IsSpent now.view.net now.cursor (head_of now.view.net arc) →
    IsSpent now.view.net new (head_of now.view.net arc)) →
    IsBlocked aim now arc → IsBlocked aim (moment_of now.view new) arc
blocked-moved aim now new arc stays was leads = elim (was leads) [
  | inl closed ↦ inl closed
  | inr spent ↦ inr (spent.0, stays spent.1)
]

-- The moment after a router's cursor was put at a place.
abbrev pub with_cursor : Moment → ℕ → ℕ → Moment
with_cursor now router at = moment_of now.view (set now.cursor router at)

-- A router's cursor may move over arcs that are blocked.
pub phase-moved : (aim : Aim) (now : Moment) (router v : ℕ) →
    IsPhase aim now → router < now.view.net.routers → router ≢ aim.t →
    get_or now.cursor router 0 ≤ v → v ≤ begin_of now.view.net (router + 1) →
    AreBlocked aim now (get_or now.cursor router 0) v → IsPhase aim (with_cursor now router v)
phase-moved aim now router v old small apart later most passed =
    let net : Net = now.view.net in
    let cursor : List ℕ = now.cursor in
    let within : router < length cursor = omega (arith, old.come.size) in
    let same = get_or-set_same cursor router v 0 within in
    let other : (r : ℕ) → r ≢ router → get_or (set cursor router v) r 0 ≡ get_or cursor r 0 =
    λ r ne. get_or-set_other cursor router r v 0 ne in
    let stays : (r : ℕ) → IsSpent net cursor r → IsSpent net (set cursor router v) r =
    λ r spent. elim (cases_eq r router) [
      | inr ne ↦ other r ne ∙ spent
      | inl is ↦ subst (λ (x : ℕ). IsSpent net (set cursor router v) x) (sym is)
          (omega (arith, same, later, most, subst (λ (x : ℕ). IsSpent net cursor x) is spent))
    ] in
    record {
      sound = old.sound;
      levelled = old.levelled;
      come = record {
        size = length-set cursor router v ∙ old.come.size;
        fresh = other aim.t (λ e. apart (sym e)) ∙ old.come.fresh;
        above = λ r labelled.
            omega (arith, (cursor-moved cursor router v r within later).0, old.come.above r labelled);
        below = λ r labelled. elim (cases_eq r router) [
          | inr ne ↦ omega (arith, other r ne, old.come.below r labelled)
          | inl is ↦ subst (λ (x : ℕ). get_or (set cursor router v) x 0 ≤ begin_of net (x + 1)) (sym is)
              (omega (arith, same, most))
        ];
        blocked = λ r labelled at low high.
            let arc : ℕ = (place_at net at).arc in
            blocked-moved aim now (set cursor router v) arc (stays (head_of net arc))
            (elim (cases_lt at (get_or cursor r 0)) [
              | inl before ↦ old.come.blocked r labelled at low before
              | inr behind ↦ elim (cases_eq r router) [
                | inr ne ↦ absurd (omega (arith, other r ne, high, behind))
                | inl is ↦
                    let from : get_or cursor router 0 ≤ at = subst (λ (x : ℕ). get_or cursor x 0 ≤ at) is behind in
                    let to : at < get_or (set cursor router v) router 0 =
                    subst (λ (x : ℕ). at < get_or (set cursor router v) x 0) is high in
                    passed at from (omega (arith, to, same))
              ]
            ]);
      };
    }

-- A router that moves its own cursor on has sent what it had sent.
pub sends-moved : (aim : Aim) (before after : Moment) (router amount v : ℕ) →
    Sends aim before after router amount → router < length after.cursor → get_or after.cursor router 0 ≤ v →
    Sends aim before (with_cursor after router v) router amount
sends-moved aim before after router amount v sent within later = record {
  same = sent.same;
  sends = sent.sends;
  falls = sent.falls;
  spares = sent.spares;
  moves = λ r. omega (arith, sent.moves r, (cursor-moved after.cursor router v r within later).0);
  keeps = λ r low apart. (cursor-moved after.cursor router v r within later).1 apart ∙ sent.keeps r low apart;
}

-- A cursor that is put elsewhere changes the sum of all cursors by as much.
pub sum-moved : (cursor : List ℕ) (router v from : ℕ) → router < length cursor → get_or cursor router 0 ≡ from →
    sum (set cursor router v) + from ≡ sum cursor + v
sum-moved cursor router v from within is =
    ap (λ n. sum (set cursor router v) + n) (sym is) ∙ sum_by-set (λ x. x) cursor router v 0 within

-- ---- t is never spent

-- The twin of an arc leaves the arc's head.
twin-ends : (net : Net) (arc : ℕ) → (tail_of net (twin arc) ≡ head_of net arc) × (twin arc / 2 ≡ arc / 2)
unfolding twin tail_in head_in
twin-ends net arc = elim (cases_eq (arc % 2) 0) [
  | inl even ↦
      let odd : ((arc + 1) % 2 == 0) ≡ false = ne_eqb ((arc + 1) % 2) 0 (λ z. omega arith) in
      let half : (arc + 1) / 2 ≡ arc / 2 = omega arith in
      rw (even, odd, half) (refl, refl)
  | inr ne ↦
      let is_odd : (arc % 2 == 0) ≡ false = ne_eqb (arc % 2) 0 ne in
      let even : ((arc - 1) % 2 == 0) ≡ true = eq-eqb ((arc - 1) % 2) 0 (omega arith) in
      let half : (arc - 1) / 2 ≡ arc / 2 = omega arith in
      rw (is_odd, even, half) (refl, refl)
]

-- It is one of the network's arcs.
twin-within : (net : Net) (arc : ℕ) → arc < arc_count net → twin arc < arc_count net
twin-within net arc within = omega (arith, (twin-ends net arc).1)

-- A spent router that an arc goes to isn't t, whose cursor is at its first place.
pub unspent : (aim : Aim) (now : Moment) (arc : ℕ) → IsPhase aim now → arc < arc_count now.view.net →
    IsSpent now.view.net now.cursor (head_of now.view.net arc) → head_of now.view.net arc ≢ aim.t
unspent aim now arc phase within spent is =
    let net : Net = now.view.net in
    let other : ℕ = twin arc in
    let back = twin-ends net arc in
    let inside : other < arc_count net = twin-within net arc within in
    let (at, low, high, _) = arc-between net phase.sound.limits other inside in
    let tail : tail_of net other ≡ aim.t = back.0 ∙ is in
    let from : begin_of net aim.t ≤ at = subst (λ (r : ℕ). begin_of net r ≤ at) tail low in
    let to : at < begin_of net (aim.t + 1) = subst (λ (r : ℕ). at < begin_of net (r + 1)) tail high in
    let end : get_or now.cursor aim.t 0 ≡ begin_of net (aim.t + 1) =
    subst (λ (r : ℕ). IsSpent net now.cursor r) is spent in
    omega (arith, phase.come.fresh)

-- Each router but t is below t.
pub below-top : (aim : Aim) (view : ResidualView) (r : ℕ) →
    IsLevelled view aim.threshold aim.t aim.label → r ≢ aim.t → get_or aim.label r 0 < get_or aim.label aim.t 0
below-top aim view r levelled apart = elim (cases_lt (get_or aim.label r 0) (get_or aim.label aim.t 0)) [
  | inl less ↦ less
  | inr high ↦ absurd (apart (levelled.only r (omega (arith, levelled.most r))))
]

-- Cursors that moved on have a larger sum.
pub sums-grow : (old new : List ℕ) (n : ℕ) → length old ≡ n → length new ≡ n →
    ((r : ℕ) → get_or old r 0 ≤ get_or new r 0) → sum old ≤ sum new
sums-grow [] [] n long as_long moves = omega arith
sums-grow [] (y ∷ ys) n long as_long moves = absurd (omega arith)
sums-grow (x ∷ xs) [] n long as_long moves = absurd (omega arith)
sums-grow (x ∷ xs) (y ∷ ys) n long as_long moves =
    let first : x ≤ y = moves 0 in
    let rest : sum xs ≤ sum ys = sums-grow xs ys (n - 1) (omega arith) (omega arith) (λ r. moves (suc r)) in
    omega (arith, sum_by-cons (λ x. x) x xs, sum_by-cons (λ x. x) y ys)
