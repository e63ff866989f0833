-- A phase sends less than the limit, so that s is spent in the end.
use Rattle.std.proofs.Common.{◌≡◌, ℕ, ◌+◌, ◌-◌, get_or, ap, arith}
use Rattle.cut_model.specs.Net.{Net}
use Rattle.cut_model.specs.Flow.{IsFlow}
use Rattle.residual_graph.specs.Arcs.{arc_count}
use Rattle.residual_graph.specs.View.{ResidualView}
use Rattle.dinic_flow.specs.Phases.{moment_of, aim_of, tally_of}
use Rattle.dinic_flow.proofs.Sending.{flow-more}
use Rattle.dinic_flow.proofs.Flows.{flow-small}
use Rattle.dinic_flow.proofs.Farther.{phase-begun, farther, cursors-move, phase-pays}
use Rattle.dinic_flow.proofs.flow.phase.Goals as goal

pub send-requires-clause-phase : goal.send-requires-clause-phase
send-requires-clause-phase g c =
    phase-begun (aim_of c.args.threshold c.args.t c.args.label.now)
    (moment_of c.args.graph.now c.args.cursor.now) c.requires.sound c.requires.levelled
    (omega (arith, c.requires.levelled.most c.args.s, c.requires.start)) c.requires.cursor c.requires.begun

pub overflow_add-result : goal.overflow_add-result
overflow_add-result g c =
    let before = c.args.graph.now in
    let after = c.send.new.graph in
    let net : after.net ≡ before.net = ap (λ (v : ResidualView). v.net) c.send.ensures.sends.same in
    let more : IsFlow before.net c.args.s c.args.t after.flow (c.args.value + c.send.result) =
    flow-more before.net c.args.s c.args.t before.flow after.flow c.args.value c.send.result c.requires.flow
    c.send.ensures.sends.sends (rw net at c.send.ensures.phase.sound.within) in
    omega (
      arith,
      flow-small before.net c.args.s c.args.t after.flow (c.args.value + c.send.result)
          c.requires.sound.limits c.requires.s more,
    )

pub returns-clause-farther : goal.returns-clause-farther
returns-clause-farther g c =
    let before = c.args.graph.now in
    let after = c.send.new.graph in
    let net : after.net ≡ before.net = ap (λ (v : ResidualView). v.net) c.send.ensures.sends.same in
    let more : IsFlow before.net c.args.s c.args.t after.flow (c.args.value + c.send.result) =
    flow-more before.net c.args.s c.args.t before.flow after.flow c.args.value c.send.result c.requires.flow
    c.send.ensures.sends.sends (rw net at c.send.ensures.phase.sound.within) in
    let small = flow-small before.net c.args.s c.args.t after.flow (c.args.value + c.send.result)
    c.requires.sound.limits c.requires.s more in
    farther (aim_of c.args.threshold c.args.t c.args.label.now) (moment_of after c.send.new.cursor) c.args.s
    c.send.ensures.phase c.requires.start c.requires.flow.differ_ends
    (c.send.ensures.spent (omega (arith, small)))

pub returns-clause-steps : goal.returns-clause-steps
returns-clause-steps g c =
    let before = c.args.graph.now in
    let after = c.send.new.graph in
    let net : after.net ≡ before.net = ap (λ (v : ResidualView). v.net) c.send.ensures.sends.same in
    let moved =
    cursors-move (aim_of c.args.threshold c.args.t c.args.label.now) (moment_of after c.send.new.cursor)
    c.args.cursor.now c.send.ensures.phase (omega (arith, c.requires.cursor, ap (λ (n : Net). n.routers) net))
    (rw net c.requires.begun)
    (λ r none. c.send.ensures.sends.keeps r (omega (arith, none))
    (λ is. absurd (omega (arith, none, c.requires.start, ap (λ (x : ℕ). get_or c.args.label.now x 0) is)))) in
    phase-pays (get_or c.args.label.now c.args.t 0 - 1) (arc_count before.net)
    (tally_of c.args.cursor.now c.args.steps.now) (tally_of c.send.new.cursor c.send.new.steps)
    (rw net at moved) (rw c.requires.start at c.send.ensures.cost)
