-- A router that goes over its places one after another.
use Rattle.std.proofs.Common.{◌≡◌, ◌≢◌, ℕ, ◌+◌, ◌-◌, ◌<◌, ◌≤◌, length, get_or, set, sum}
use Rattle.std.proofs.Common.{◌∙◌, sym, ap, subst, arith, inl, inr}
use Rattle.std.proofs.lemmas.Bool.{cases_lt}
use Rattle.cut_model.specs.Net.{Net}
use Rattle.residual_graph.specs.Arcs.{tail_of, arc_count}
use Rattle.residual_graph.specs.Places.{IsPlaceOf, begin_of, place_at}
use Rattle.residual_graph.specs.View.{ResidualView}
use Rattle.residual_graph.proofs.ByPlace.{between-is, begin-most}
use Rattle.dinic_flow.specs.Phases.{Moment, Aim, IsBlocked, AreBlocked, IsPhase, Sends}
use Rattle.dinic_flow.specs.Phases.{Tally, tally_of, Costs}
use Rattle.dinic_flow.proofs.Relays.{sends-both, passed-later}
use Rattle.dinic_flow.proofs.Advancing.{with_cursor, phase-moved, sends-moved, sum-moved, sums-grow, below-top}
use Rattle.dinic_flow.proofs.Paying.{HasPaid, pays-passed, pays-last}

-- A router other than t, at a moment of a phase at which it begins to send.
pub record IsSender (aim : Aim) (start : Moment) (router : ℕ) : Type 0 where
  pub phase : IsPhase aim start
  pub small : router < start.view.net.routers
  pub labelled : 0 < get_or aim.label router 0
  pub apart : router ≢ aim.t

-- The sender has sent so much, has passed the places from its cursor up to one, and hasn't moved its cursor yet.
pub record IsPassing (aim : Aim) (start now : Moment) (router sent at : ℕ) : Type 0 where
  pub sender : IsSender aim start router
  pub phase : IsPhase aim now
  pub sends : Sends aim start now router sent
  pub low : get_or start.cursor router 0 ≤ at
  pub own : get_or now.cursor router 0 ≡ get_or start.cursor router 0
  pub blocked : AreBlocked aim now (get_or start.cursor router 0) at

-- The network stays.
pub passing-net : (aim : Aim) (start now : Moment) (router sent at : ℕ) →
    IsPassing aim start now router sent at → now.view.net ≡ start.view.net
passing-net aim start now router sent at passing = ap (λ (v : ResidualView). v.net) passing.sends.same

-- What holds at a place of the router that isn't passed yet.
pub record IsNext (start now : Moment) (router at : ℕ) : Type 0 where
  pub from : begin_of now.view.net router ≤ get_or start.cursor router 0
  pub high : at < begin_of now.view.net (router + 1)
  pub inside : at < arc_count now.view.net
  pub small : router < now.view.net.routers
  pub leaves : IsPlaceOf now.view.net router (place_at now.view.net at)

-- It has an arc of the router.
pub is_next : (aim : Aim) (start now : Moment) (router sent at : ℕ) →
    IsPassing aim start now router sent at → at < begin_of start.view.net (router + 1) → IsNext start now router at
is_next aim start now router sent at passing high =
    let view : ResidualView = now.view in
    let net = passing-net aim start now router sent at passing in
    let small : router < view.net.routers = rw net passing.sender.small in
    let from : begin_of view.net router ≤ get_or start.cursor router 0 =
    rw net (passing.sender.phase.come.above router passing.sender.labelled) in
    let to : at < begin_of view.net (router + 1) = rw net high in
    let most = begin-most view.net passing.phase.sound.limits (router + 1) (omega arith) in
    record {
      from = from;
      high = to;
      inside = omega (arith, to, most);
      small = small;
      leaves = between-is view.net passing.phase.sound.limits router at small (omega (arith, from, passing.low)) to;
    }

-- The router sent some more over the arc at the next place, and its cursor is where it was.
pub passing-more : (aim : Aim) (start now after : Moment) (router sent more at : ℕ) →
    IsPassing aim start now router sent at → IsNext start now router at → IsPhase aim after →
    Sends aim now after (tail_of now.view.net (place_at now.view.net at).arc) more →
    get_or after.cursor (tail_of now.view.net (place_at now.view.net at).arc) 0
    ≡ get_or now.cursor (tail_of now.view.net (place_at now.view.net at).arc) 0 →
    IsPassing aim start after router (sent + more) at
passing-more aim start now after router sent more at passing next phase sends own =
    let sent_on : Sends aim now after router more =
    subst (λ (r : ℕ). Sends aim now after r more) next.leaves.tail sends in
    let inside : (p : ℕ) → get_or start.cursor router 0 ≤ p → p < at →
    (place_at now.view.net p).arc < arc_count now.view.net = λ p low high.
    (between-is now.view.net passing.phase.sound.limits router p next.small (omega (arith, next.from, low))
    (omega (arith, next.high, high))).arc in
    record {
      sender = passing.sender;
      phase = phase;
      low = passing.low;
      sends = sends-both aim start now after router sent more passing.sends sent_on;
      own = subst (λ (r : ℕ). get_or after.cursor r 0 ≡ get_or now.cursor r 0) next.leaves.tail own ∙ passing.own;
      blocked = passed-later aim now after router more (get_or start.cursor router 0) at sent_on phase inside
          passing.blocked;
    }

-- A place whose arc is blocked is passed.
pub passing-on : (aim : Aim) (start now : Moment) (router sent at : ℕ) →
    IsPassing aim start now router sent at → IsBlocked aim now (place_at now.view.net at).arc →
    IsPassing aim start now router sent (at + 1)
passing-on aim start now router sent at passing blocked = record {
  sender = passing.sender;
  phase = passing.phase;
  sends = passing.sends;
  low = omega (arith, passing.low);
  own = passing.own;
  blocked = λ p low high. elim (cases_lt p at) [
    | inl early ↦ passing.blocked p low early
    | inr last ↦
        let is : at ≡ p = omega arith in
        subst (λ (x : ℕ). IsBlocked aim now (place_at now.view.net x).arc) is blocked
  ];
}

-- The router's cursor is put at the place up to which it passed.
pub passed-phase : (aim : Aim) (start now : Moment) (router sent at : ℕ) →
    IsPassing aim start now router sent at → at ≤ begin_of start.view.net (router + 1) →
    IsPhase aim (with_cursor now router at)
passed-phase aim start now router sent at passing high =
    let net = passing-net aim start now router sent at passing in
    phase-moved aim now router at passing.phase (rw net passing.sender.small) passing.sender.apart
    (omega (arith, passing.own, passing.low)) (rw net high)
    (λ p from to. passing.blocked p (omega (arith, passing.own, from)) to)

-- All cursors have a place for the router.
passing-within : (aim : Aim) (start now : Moment) (router sent at : ℕ) →
    IsPassing aim start now router sent at → length now.cursor ≡ start.view.net.routers
passing-within aim start now router sent at passing =
    passing.phase.come.size ∙ ap (λ (n : Net). n.routers) (passing-net aim start now router sent at passing)

-- What it sent is what it had sent.
pub passed-sends : (aim : Aim) (start now : Moment) (router sent at : ℕ) →
    IsPassing aim start now router sent at → Sends aim start (with_cursor now router at) router sent
passed-sends aim start now router sent at passing =
    let long = passing-within aim start now router sent at passing in
    sends-moved aim start now router sent at passing.sends (omega (arith, long, passing.sender.small))
    (omega (arith, passing.own, passing.low))

-- ---- what it costs

-- How many levels t is above one.
abbrev pub levels_above : Aim → ℕ → ℕ
levels_above aim level = get_or aim.label aim.t 0 - level

-- Levels above a router: one more than above the next one.
levels-next : (aim : Aim) (start : Moment) (router : ℕ) → IsSender aim start router →
    levels_above aim (get_or aim.label router 0) ≡ levels_above aim (get_or aim.label router 0 + 1) + 1
levels-next aim start router sender =
    omega (arith, below-top aim start.view router sender.phase.levelled sender.apart)

-- The cursors' sums before, and after the router's was put at a place.
passed-sums : (aim : Aim) (start now : Moment) (router sent at : ℕ) →
    IsPassing aim start now router sent at →
    (sum (set now.cursor router at) + get_or start.cursor router 0 ≡ sum now.cursor + at)
    × (sum start.cursor ≤ sum now.cursor)
passed-sums aim start now router sent at passing =
    let sender = passing.sender in
    let long = passing-within aim start now router sent at passing in (
      sum-moved now.cursor router at (get_or start.cursor router 0) (omega (arith, long, sender.small)) passing.own,
      sums-grow start.cursor now.cursor start.view.net.routers sender.phase.come.size long passing.sends.moves,
    )

-- All places up to one are passed and paid for.
pub passed-costs : (aim : Aim) (start now : Moment) (router sent at before after : ℕ) →
    IsPassing aim start now router sent at →
    HasPaid (levels_above aim (get_or aim.label router 0 + 1)) (get_or start.cursor router 0) at
    (tally_of start.cursor before) (tally_of now.cursor after) →
    Costs (levels_above aim (get_or aim.label router 0)) (tally_of start.cursor before)
    (tally_of (set now.cursor router at) after)
passed-costs aim start now router sent at before after passing paid =
    let first : Tally = tally_of start.cursor before in
    let sums = passed-sums aim start now router sent at passing in
    subst (λ (levels : ℕ). Costs levels first (tally_of (set now.cursor router at) after))
    (sym (levels-next aim start router passing.sender))
    (pays-passed (levels_above aim (get_or aim.label router 0 + 1)) (get_or start.cursor router 0) at
    (sum (set now.cursor router at)) first (tally_of now.cursor after) sums.0 paid sums.1)

-- One place more was paid for than the cursor passes.
pub last-costs : (aim : Aim) (start now : Moment) (router sent at before after : ℕ) →
    IsPassing aim start now router sent at →
    HasPaid (levels_above aim (get_or aim.label router 0 + 1)) (get_or start.cursor router 0) (at + 1)
    (tally_of start.cursor before) (tally_of now.cursor after) →
    Costs (levels_above aim (get_or aim.label router 0)) (tally_of start.cursor before)
    (tally_of (set now.cursor router at) after)
last-costs aim start now router sent at before after passing paid =
    let first : Tally = tally_of start.cursor before in
    let sums = passed-sums aim start now router sent at passing in
    subst (λ (levels : ℕ). Costs levels first (tally_of (set now.cursor router at) after))
    (sym (levels-next aim start router passing.sender))
    (pays-last (levels_above aim (get_or aim.label router 0 + 1)) (get_or start.cursor router 0) at
    (sum (set now.cursor router at)) first (tally_of now.cursor after) sums.0 paid sums.1)
