-- Sending on over one arc, and over the arcs of a router one after another.
use Rattle.std.proofs.Common.{◌≡◌, ◌≢◌, ℕ, ◌+◌, ◌-◌, ◌<◌, ◌≤◌, get_or}
use Rattle.std.proofs.Common.{sym, ◌∙◌, ap, subst, arith, inr, rules}
use Rattle.std.specs.Prelude.{pos}
use Rattle.std.proofs.lemmas.Bool.{false≢true}
use Rattle.cut_model.specs.Net.{Net}
use Rattle.residual_graph.specs.declared.place.Place.{Place}
use Rattle.residual_graph.specs.Arcs.{tail_of, head_of, arc_count}
use Rattle.residual_graph.specs.Places.{place_at}
use Rattle.residual_graph.specs.View.{ResidualView, left_on}
use Rattle.dinic_flow.specs.Phases.{Moment, moment_of, Aim, aim_of, IsSpent, IsBlocked, tally_of}
use Rattle.dinic_flow.proofs.Relays.{is_over, over-sends, over-blocked, phase-push, place_at-head}
use Rattle.dinic_flow.proofs.Advancing.{blocked-level, unspent, below-top}
use Rattle.dinic_flow.proofs.Paying.{pays-place}
use Rattle.dinic_flow.proofs.Passing.{passing-net, is_next, passing-more, passing-on}
use Rattle.dinic_flow.proofs.Passing.{levels_above, passed-phase, passed-sends, passed-costs, last-costs}
use Rattle.dinic_flow.proofs.blocking.+blocking.Goals as goal

pub send_over-returns-then-not-is-clause-blocked : goal.send_over-returns-then-not-is-clause-blocked
send_over-returns-then-not-is-clause-blocked g t c = λ _.
    let aim : Aim = aim_of c.args.threshold c.args.t c.args.label.now in
    let now : Moment = moment_of c.args.graph.now c.args.cursor.now in
    let net : Net = now.view.net in
    let head : c.place-place.result.head ≡ head_of net (place_at net c.args.at).arc =
    ap (λ (p : Place). p.head) c.place-place.ensures.value ∙ place_at-head net c.args.at in
    blocked-level aim now (place_at net c.args.at).arc
    (λ leads. false≢true (sym c.if-not-is.true
    ∙ c.is.ensures.1 (ap (λ (r : ℕ). get_or aim.label r 0) head ∙ leads ∙ sym c.requires.next)))

pub send_over-returns-then-cursor-place-clause-blocked : goal.send_over-returns-then-cursor-place-clause-blocked
send_over-returns-then-cursor-place-clause-blocked g t c = λ _ leads.
    let aim : Aim = aim_of c.args.threshold c.args.t c.args.label.now in
    let now : Moment = moment_of c.args.graph.now c.args.cursor.now in
    let net : Net = now.view.net in
    let arc : ℕ = (place_at net c.args.at).arc in
    let is_arc : c.place-place.result.arc ≡ arc = ap (λ (p : Place). p.arc) c.place-place.ensures.value in
    let within : arc < arc_count net = subst (λ (x : ℕ). x < arc_count net) is_arc c.place-place.ensures.arc in
    let head : c.place-place.result.head ≡ head_of net arc =
    ap (λ (p : Place). p.head) c.place-place.ensures.value ∙ place_at-head net c.args.at in
    let spent : IsSpent net now.cursor (head_of net arc) =
    subst (λ (r : ℕ). IsSpent net now.cursor r) head (c.if-cursor-place.true ∙ c.begin.ensures.value) in
    inr (unspent aim now arc c.requires.phase within spent, spent)

pub send_over-returns-clause-phase : goal.send_over-returns-clause-phase
send_over-returns-clause-phase g t c =
    let aim : Aim = aim_of c.args.threshold c.args.t c.args.label.now in
    let before : Moment = moment_of c.args.graph.now c.args.cursor.now in
    let between : Moment = moment_of c.send_on-sent.new.graph c.send_on-sent.new.cursor in
    let over = is_over aim before between c.push_some.new.graph c.place-place.result c.args.at c.send_on-sent.result
    c.place-place.ensures.value c.place-place.ensures.arc (c.is.ensures.0 c.if-not-is.false ∙ c.requires.next)
    c.send_on-sent.ensures.sends c.send_on-sent.ensures.phase c.push_some.ensures.value in
    phase-push aim between c.push_some.new.graph (place_at before.view.net c.args.at).arc c.send_on-sent.result
    over.push (rw over.same (omega (arith, c.requires.next, c.requires.labelled))) c.push_some.ensures.sound
    c.send_on-sent.ensures.phase

pub send_over-returns-clause-sends : goal.send_over-returns-clause-sends
send_over-returns-clause-sends g t c =
    let aim : Aim = aim_of c.args.threshold c.args.t c.args.label.now in
    let before : Moment = moment_of c.args.graph.now c.args.cursor.now in
    let between : Moment = moment_of c.send_on-sent.new.graph c.send_on-sent.new.cursor in
    let over = is_over aim before between c.push_some.new.graph c.place-place.result c.args.at c.send_on-sent.result
    c.place-place.ensures.value c.place-place.ensures.arc (c.is.ensures.0 c.if-not-is.false ∙ c.requires.next)
    c.send_on-sent.ensures.sends c.send_on-sent.ensures.phase c.push_some.ensures.value in
    over-sends aim before between c.push_some.new.graph (place_at before.view.net c.args.at).arc
    c.send_on-sent.result over

pub send_over-returns-clause-blocked : goal.send_over-returns-clause-blocked
send_over-returns-clause-blocked g t c =
    let aim : Aim = aim_of c.args.threshold c.args.t c.args.label.now in
    let before : Moment = moment_of c.args.graph.now c.args.cursor.now in
    let between : Moment = moment_of c.send_on-sent.new.graph c.send_on-sent.new.cursor in
    let over = is_over aim before between c.push_some.new.graph c.place-place.result c.args.at c.send_on-sent.result
    c.place-place.ensures.value c.place-place.ensures.arc (c.is.ensures.0 c.if-not-is.false ∙ c.requires.next)
    c.send_on-sent.ensures.sends c.send_on-sent.ensures.phase c.push_some.ensures.value in
    let net : Net = before.view.net in
    let arc : ℕ = (place_at net c.args.at).arc in
    let is_arc : c.place-place.result.arc ≡ arc = ap (λ (p : Place). p.arc) c.place-place.ensures.value in
    let head : c.place-place.result.head ≡ head_of net arc =
    ap (λ (p : Place). p.head) c.place-place.ensures.value ∙ place_at-head net c.args.at in
    let left : pos c.left-left.result ≡ left_on before.view arc =
    c.left-left.ensures.value ∙ ap (left_on before.view) is_arc in
    let spent : c.send_on-sent.result < c.min-most.result →
    (head_of net arc ≢ c.args.t) × IsSpent between.view.net between.cursor (head_of net arc) =
    subst (λ (r : ℕ). c.send_on-sent.result < c.min-most.result →
    (r ≢ c.args.t) × IsSpent between.view.net between.cursor r) head c.send_on-sent.ensures.spent in
    over-blocked aim before between c.push_some.new.graph arc c.send_on-sent.result c.left-left.result c.args.limit
    over c.requires.threshold left (omega (arith, c.min-most.ensures, c.send_on-sent.ensures.most))
    (λ less short. spent (omega (arith, c.min-most.ensures, less, short)))

pub send-send_over-sent-requires : goal.send-send_over-sent-requires
send-send_over-sent-requires g t c κs within =
    let aim : Aim = aim_of c.args.threshold c.args.t c.args.label.now in
    let start : Moment = moment_of c.args.graph.now c.args.cursor.now in
    let now : Moment = moment_of c.loop-at.graph c.loop-at.cursor in
    let router : ℕ = c.args.router in
    let at : ℕ = c.loop-at.at in
    let was = c.loop-at.invariant.passing in
    let next = is_next aim start now router c.loop-at.sent at was (omega (arith, c.begin-end.ensures.value)) in
    let view : ResidualView = now.view in
    let net = passing-net aim start now router c.loop-at.sent at was in
    let inside = next.inside in
    let leaves : c.get-next.result + 1 ≡ get_or aim.label (tail_of view.net (place_at view.net at).arc) 0 + 1 =
    ap (λ (level : ℕ). level + 1) c.get-next.ensures
    ∙ ap (λ (r : ℕ). get_or aim.label r 0 + 1) (sym next.leaves.tail) in
    let less = below-top aim start.view router c.requires.phase.levelled c.requires.apart in
    let small : c.args.t < view.net.routers = rw net c.requires.t in
    search rules

pub send-returns-then-sent-limit-clause-phase : goal.send-returns-then-sent-limit-clause-phase
send-returns-then-sent-limit-clause-phase g t c =
    let aim : Aim = aim_of c.args.threshold c.args.t c.args.label.now in
    let start : Moment = moment_of c.args.graph.now c.args.cursor.now in
    let now : Moment = moment_of c.loop-at.graph c.loop-at.cursor in
    let router : ℕ = c.args.router in
    let at : ℕ = c.loop-at.at in
    let was = c.loop-at.invariant.passing in
    let next = is_next aim start now router c.loop-at.sent at was (omega (arith, c.begin-end.ensures.value)) in
    let after : Moment = moment_of c.send_over-sent.new.graph c.send_over-sent.new.cursor in
    let more = passing-more aim start now after router c.loop-at.sent c.send_over-sent.result at was next
    c.send_over-sent.ensures.phase c.send_over-sent.ensures.sends c.send_over-sent.ensures.own in
    passed-phase aim start after router (c.loop-at.sent + c.send_over-sent.result) at more
    (omega (arith, c.begin-end.ensures.value))

pub send-returns-then-sent-limit-clause-sends : goal.send-returns-then-sent-limit-clause-sends
send-returns-then-sent-limit-clause-sends g t c =
    let aim : Aim = aim_of c.args.threshold c.args.t c.args.label.now in
    let start : Moment = moment_of c.args.graph.now c.args.cursor.now in
    let now : Moment = moment_of c.loop-at.graph c.loop-at.cursor in
    let router : ℕ = c.args.router in
    let at : ℕ = c.loop-at.at in
    let was = c.loop-at.invariant.passing in
    let next = is_next aim start now router c.loop-at.sent at was (omega (arith, c.begin-end.ensures.value)) in
    let after : Moment = moment_of c.send_over-sent.new.graph c.send_over-sent.new.cursor in
    let more = passing-more aim start now after router c.loop-at.sent c.send_over-sent.result at was next
    c.send_over-sent.ensures.phase c.send_over-sent.ensures.sends c.send_over-sent.ensures.own in
    passed-sends aim start after router (c.loop-at.sent + c.send_over-sent.result) at more

pub send-returns-then-sent-limit-clause-cost : goal.send-returns-then-sent-limit-clause-cost
send-returns-then-sent-limit-clause-cost g t c =
    let aim : Aim = aim_of c.args.threshold c.args.t c.args.label.now in
    let start : Moment = moment_of c.args.graph.now c.args.cursor.now in
    let now : Moment = moment_of c.loop-at.graph c.loop-at.cursor in
    let router : ℕ = c.args.router in
    let at : ℕ = c.loop-at.at in
    let was = c.loop-at.invariant.passing in
    let next = is_next aim start now router c.loop-at.sent at was (omega (arith, c.begin-end.ensures.value)) in
    let after : Moment = moment_of c.send_over-sent.new.graph c.send_over-sent.new.cursor in
    let more = passing-more aim start now after router c.loop-at.sent c.send_over-sent.result at was next
    c.send_over-sent.ensures.phase c.send_over-sent.ensures.sends c.send_over-sent.ensures.own in
    last-costs aim start after router (c.loop-at.sent + c.send_over-sent.result) at c.args.steps.now
    c.send_over-sent.new.steps more
    (pays-place (levels_above aim (get_or aim.label router 0 + 1)) (get_or start.cursor router 0) at
    (tally_of start.cursor c.args.steps.now) (tally_of now.cursor c.loop-at.steps)
    (tally_of after.cursor c.send_over-sent.new.steps) c.loop-at.invariant.paid
    (rw c.get-next.ensures at c.send_over-sent.ensures.cost))

pub send-loop-at-preserved : goal.send-loop-at-preserved
send-loop-at-preserved g t c =
    let aim : Aim = aim_of c.args.threshold c.args.t c.args.label.now in
    let start : Moment = moment_of c.args.graph.now c.args.cursor.now in
    let now : Moment = moment_of c.loop-at.graph c.loop-at.cursor in
    let router : ℕ = c.args.router in
    let at : ℕ = c.loop-at.at in
    let was = c.loop-at.invariant.passing in
    let next = is_next aim start now router c.loop-at.sent at was (omega (arith, c.begin-end.ensures.value)) in
    let after : Moment = moment_of c.send_over-sent.new.graph c.send_over-sent.new.cursor in
    let more = passing-more aim start now after router c.loop-at.sent c.send_over-sent.result at was next
    c.send_over-sent.ensures.phase c.send_over-sent.ensures.sends c.send_over-sent.ensures.own in
    let short : c.send_over-sent.result < c.args.limit - c.loop-at.sent =
    omega (arith, c.send_over-sent.ensures.most, c.if-sent-limit.false) in
    let same : after.view.net ≡ now.view.net = ap (λ (v : ResidualView). v.net) c.send_over-sent.ensures.sends.same in
    let blocked = subst (λ (n : Net). IsBlocked aim after (place_at n at).arc) (sym same)
    (c.send_over-sent.ensures.blocked short) in
    record {
      passing = passing-on aim start after router (c.loop-at.sent + c.send_over-sent.result) at more blocked;
      some = omega arith;
      paid = pays-place (levels_above aim (get_or aim.label router 0 + 1)) (get_or start.cursor router 0) at
          (tally_of start.cursor c.args.steps.now) (tally_of now.cursor c.loop-at.steps)
          (tally_of after.cursor c.send_over-sent.new.steps) c.loop-at.invariant.paid
          (rw c.get-next.ensures at c.send_over-sent.ensures.cost);
    }

pub send-returns-clause-phase : goal.send-returns-clause-phase
send-returns-clause-phase g t c =
    let aim : Aim = aim_of c.args.threshold c.args.t c.args.label.now in
    let start : Moment = moment_of c.args.graph.now c.args.cursor.now in
    let now : Moment = moment_of c.loop-at.graph c.loop-at.cursor in
    let router : ℕ = c.args.router in
    let at : ℕ = c.loop-at.at in
    let was = c.loop-at.invariant.passing in
    let bound : get_or start.cursor router 0 ≤ c.begin-end.result =
    omega (arith, c.requires.phase.come.below router c.requires.labelled, c.begin-end.ensures.value) in
    let last : at ≡ c.begin-end.result = omega (arith, c.loop-at.auto.at-end bound) in
    rw (← last) (passed-phase aim start now router c.loop-at.sent at was
    (omega (arith, c.begin-end.ensures.value)))

pub send-returns-clause-sends : goal.send-returns-clause-sends
send-returns-clause-sends g t c =
    let aim : Aim = aim_of c.args.threshold c.args.t c.args.label.now in
    let start : Moment = moment_of c.args.graph.now c.args.cursor.now in
    let now : Moment = moment_of c.loop-at.graph c.loop-at.cursor in
    let router : ℕ = c.args.router in
    let at : ℕ = c.loop-at.at in
    let was = c.loop-at.invariant.passing in
    let bound : get_or start.cursor router 0 ≤ c.begin-end.result =
    omega (arith, c.requires.phase.come.below router c.requires.labelled, c.begin-end.ensures.value) in
    let last : at ≡ c.begin-end.result = omega (arith, c.loop-at.auto.at-end bound) in
    rw (← last) (passed-sends aim start now router c.loop-at.sent at was)

pub send-returns-clause-cost : goal.send-returns-clause-cost
send-returns-clause-cost g t c =
    let aim : Aim = aim_of c.args.threshold c.args.t c.args.label.now in
    let start : Moment = moment_of c.args.graph.now c.args.cursor.now in
    let now : Moment = moment_of c.loop-at.graph c.loop-at.cursor in
    let router : ℕ = c.args.router in
    let at : ℕ = c.loop-at.at in
    let was = c.loop-at.invariant.passing in
    let bound : get_or start.cursor router 0 ≤ c.begin-end.result =
    omega (arith, c.requires.phase.come.below router c.requires.labelled, c.begin-end.ensures.value) in
    let last : at ≡ c.begin-end.result = omega (arith, c.loop-at.auto.at-end bound) in
    rw (← last) (passed-costs aim start now router c.loop-at.sent at c.args.steps.now c.loop-at.steps was
    c.loop-at.invariant.paid)
