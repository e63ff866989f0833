-- A search begins, goes on and ends.
use Rattle.std.proofs.Common.{◌≡◌, ◌≤◌, false, true, length, ◌∙◌, arith, rules}
use Rattle.dinic_flow.specs.Balls.{BallView, search_of, reached_of, ball_of, round_of, centre_of, AreBalls}
use Rattle.dinic_flow.proofs.Entering.{apart-turned}
use Rattle.dinic_flow.proofs.QueueFronts.{front-routers, part-routers}
use Rattle.dinic_flow.proofs.Levelling.{IsOneNumbering}
use Rattle.dinic_flow.proofs.JoinedBalls.{numbered-near, numbered-far, joined-near, joined-far}
use Rattle.dinic_flow.proofs.BegunCursors.{begun-both}
use Rattle.dinic_flow.proofs.PartedBalls.{parted}
use Rattle.dinic_flow.proofs.BegunBalls.{alone-begun, begun-long, first-put, begun-ball, begun-apart}
use Rattle.dinic_flow.proofs.WorkOfBalls.{work-both}
use Rattle.dinic_flow.proofs.search.search.Goals as goal

pub loop-near-init : goal.loop-near-init
loop-near-init g c =
    let search = search_of c.args.graph.now c.args.threshold in
    let near_alone = alone-begun c.begin-near.new.label _ c.args.s c.begin-near.ensures.label (omega arith) in
    let far_alone = alone-begun c.begin-far.new.label _ c.args.t c.begin-far.ensures.label (omega arith) in
    let start = first-put c.begin-near.new.queue _ c.args.s c.begin-near.ensures.queue (omega arith) in
    let end = first-put c.begin-far.new.queue _ c.args.t c.begin-far.ensures.queue (omega arith) in
    rw (c.begin-near.ensures.ball, c.begin-far.ensures.ball)
    record {
      balls = record {
        near_ball = begun-ball search false c.begin-near.new.label c.begin-near.new.queue c.args.s near_alone start
            c.requires.s;
        far_ball = begun-ball search true c.begin-far.new.label c.begin-far.new.queue c.args.t far_alone end
            c.requires.t;
        apart = begun-apart c.begin-near.new.label c.begin-far.new.label c.args.s c.args.t near_alone far_alone
            c.requires.differ;
      };
      label = begun-long c.begin-near.new.label _ c.args.s c.begin-near.ensures.label;
      marks = begun-long c.begin-far.new.label _ c.args.t c.begin-far.ensures.label;
      near_few = omega (arith, c.requires.s);
      far_few = omega (arith, c.requires.t);
      start = start;
      end = end;
      steps = omega arith;
    }

pub unlabel-requires : goal.unlabel-requires
unlabel-requires g c =
    let stopped = c.spread-round.ensures.stopped c.if-round.true in
    part-routers stopped.labelled c.loop-near.near.known c.spread-round.result.known _ (omega arith) (omega arith)

pub number-requires-clause-label : goal.number-requires-clause-label
number-requires-clause-label g c =
    front-routers c.loop-near.invariant.balls.far_ball.labelled c.loop-near.far.known _ (omega arith) (omega arith)

pub number-requires-clause-marks : goal.number-requires-clause-marks
number-requires-clause-marks g c =
    front-routers c.loop-near.invariant.balls.far_ball.labelled c.loop-near.far.known _ (omega arith) (omega arith)

pub begin_both-requires-clause-near : goal.begin_both-requires-clause-near
begin_both-requires-clause-near g c =
    let stopped = c.spread-round.ensures.stopped c.if-round.true in
    front-routers stopped.labelled c.loop-near.near.known _ (omega (arith, c.spread-round.ensures.more)) (omega arith)

pub begin_both-requires-clause-far : goal.begin_both-requires-clause-far
begin_both-requires-clause-far g c =
    front-routers c.loop-near.invariant.balls.far_ball.labelled c.loop-near.far.known _ (omega arith) (omega arith)

pub number-requires-then-round-2-clause-label : goal.number-requires-then-round-2-clause-label
number-requires-then-round-2-clause-label g c =
    let round = c.spread-round-else-grows_near in
    let stopped = round.ensures.stopped c.if-round-2.true in
    front-routers stopped.labelled c.loop-near.far.known _ (omega (arith, round.ensures.more))
    (omega (arith, c.requires.label, c.loop-near.invariant.label))

pub number-requires-then-round-2-clause-marks : goal.number-requires-then-round-2-clause-marks
number-requires-then-round-2-clause-marks g c =
    let round = c.spread-round-else-grows_near in
    let stopped = round.ensures.stopped c.if-round-2.true in
    front-routers stopped.labelled c.loop-near.far.known _ (omega (arith, round.ensures.more))
    (omega (arith, c.requires.marks, round.ensures.label, c.loop-near.invariant.marks))

pub begin_both-requires-then-round-2-clause-near : goal.begin_both-requires-then-round-2-clause-near
begin_both-requires-then-round-2-clause-near g c =
    front-routers c.loop-near.invariant.balls.near_ball.labelled c.loop-near.near.known _ (omega arith) (omega arith)

pub begin_both-requires-then-round-2-clause-far : goal.begin_both-requires-then-round-2-clause-far
begin_both-requires-then-round-2-clause-far g c =
    let round = c.spread-round-else-grows_near in
    let stopped = round.ensures.stopped c.if-round-2.true in
    front-routers stopped.labelled c.loop-near.far.known _ (omega (arith, round.ensures.more)) (omega arith)

pub returns-then-round-clause-found : goal.returns-then-round-clause-found
returns-then-round-clause-found g c =
    let old = c.loop-near.invariant in
    let round = c.spread-round in
    let near : BallView =
    round_of c.loop-near.near (reached_of round.new.label round.new.queue round.result.known) in
    let far : BallView = ball_of c.loop-near.marks c.loop-near.behind c.loop-near.far in
    let balls : AreBalls (search_of c.args.graph.now c.args.threshold) near far = record {
      near_ball = round.ensures.stopped c.if-round.true;
      far_ball = old.balls.far_ball;
      apart = round.ensures.apart;
    } in
    let start : centre_of near ≡ c.args.s = round.ensures.centre ∙ old.start in
    let end : centre_of far ≡ c.args.t = old.end in
    let near_room : round.result.known ≤ length round.new.queue =
    omega (arith, round.ensures.few, round.auto.queue, c.loop-near.auto.ahead) in
    let far_room : c.loop-near.far.known ≤ length c.loop-near.behind =
    omega (arith, old.far_few, c.loop-near.auto.behind) in
    let one : IsOneNumbering near far c.number.new.label =
    numbered-near c.unlabel.new.label c.number.new.label balls (omega arith) near_room far_room c.unlabel.ensures
    c.number.ensures in (
      rw (start, end) at (joined-near c.unlabel.new.label c.number.new.label balls (omega arith)
          (omega (arith, c.loop-near-test.true)) near_room far_room (round.ensures.meets c.if-round.true)
          c.unlabel.ensures c.number.ensures
          (omega (
            arith,
            c.requires.label,
            c.number.ensures.size,
            c.unlabel.ensures.size,
            round.ensures.label,
            old.label,
          ))),
      begun-both c.args.graph.now.net c.begin_both.new.cursor balls one
          (omega (arith, round.ensures.more, near_room)) far_room c.begin_both.ensures.near c.begin_both.ensures.far,
    )

pub returns-then-round-clause-steps : goal.returns-then-round-clause-steps
returns-then-round-clause-steps g c =
    let old = c.loop-near.invariant in
    let round = c.spread-round in
    let near : BallView =
    round_of c.loop-near.near (reached_of round.new.label round.new.queue round.result.known) in
    let far : BallView = ball_of c.loop-near.marks c.loop-near.behind c.loop-near.far in
    let balls : AreBalls (search_of c.args.graph.now c.args.threshold) near far = record {
      near_ball = round.ensures.stopped c.if-round.true;
      far_ball = old.balls.far_ball;
      apart = round.ensures.apart;
    } in
    let work = work-both c.loop-near.near.known c.loop-near.far.front balls round.ensures.more
    old.balls.far_ball.ordered in
    omega (arith, work, round.ensures.steps, old.steps)

pub loop-near-preserved-then-grows_near : goal.loop-near-preserved-then-grows_near
loop-near-preserved-then-grows_near g c =
    let old = c.loop-near.invariant in
    rw c.grown-near.ensures
    record {
      balls = record {
        near_ball = c.spread-round.ensures.grown c.if-round.false;
        far_ball = old.balls.far_ball;
        apart = c.spread-round.ensures.apart;
      };
      label = c.spread-round.ensures.label ∙ old.label;
      marks = old.marks;
      near_few = c.spread-round.ensures.few;
      far_few = old.far_few;
      start = c.spread-round.ensures.centre ∙ old.start;
      end = old.end;
      steps = omega (arith, c.spread-round.ensures.steps, old.steps);
    }

pub returns-then-round-2-clause-found : goal.returns-then-round-2-clause-found
returns-then-round-2-clause-found g c =
    let old = c.loop-near.invariant in
    let round = c.spread-round-else-grows_near in
    let near : BallView = ball_of c.loop-near.label c.loop-near.ahead c.loop-near.near in
    let far : BallView =
    round_of c.loop-near.far (reached_of round.new.label round.new.queue round.result.known) in
    let balls : AreBalls (search_of c.args.graph.now c.args.threshold) near far = record {
      near_ball = old.balls.near_ball;
      far_ball = round.ensures.stopped c.if-round-2.true;
      apart = apart-turned _ _ round.ensures.apart;
    } in
    let start : centre_of near ≡ c.args.s = old.start in
    let end : centre_of far ≡ c.args.t = round.ensures.centre ∙ old.end in
    let far_room : c.loop-near.far.known ≤ length round.new.queue =
    omega (arith, old.far_few, round.auto.queue, c.loop-near.auto.behind) in
    let one : IsOneNumbering near far c.number-then-round-2.new.label =
    numbered-far c.number-then-round-2.new.label balls (omega arith) far_room c.number-then-round-2.ensures in (
      rw (start, end) at (joined-far c.number-then-round-2.new.label balls (omega arith)
          (c.if-grows_near.ensures (search rules)) far_room (round.ensures.meets c.if-round-2.true)
          c.number-then-round-2.ensures
          (omega (arith, c.requires.label, c.number-then-round-2.ensures.size, old.label))),
      begun-both c.args.graph.now.net c.begin_both-then-round-2.new.cursor balls one
          (omega (arith, old.near_few, c.loop-near.auto.ahead)) far_room c.begin_both-then-round-2.ensures.near
          c.begin_both-then-round-2.ensures.far,
    )

pub returns-then-round-2-clause-steps : goal.returns-then-round-2-clause-steps
returns-then-round-2-clause-steps g c =
    let old = c.loop-near.invariant in
    let round = c.spread-round-else-grows_near in
    let near : BallView = ball_of c.loop-near.label c.loop-near.ahead c.loop-near.near in
    let far : BallView =
    round_of c.loop-near.far (reached_of round.new.label round.new.queue round.result.known) in
    let balls : AreBalls (search_of c.args.graph.now c.args.threshold) near far = record {
      near_ball = old.balls.near_ball;
      far_ball = round.ensures.stopped c.if-round-2.true;
      apart = apart-turned _ _ round.ensures.apart;
    } in
    let work = work-both c.loop-near.near.front c.loop-near.far.known balls old.balls.near_ball.ordered
    round.ensures.more in
    omega (arith, work, round.ensures.steps, old.steps)

pub loop-near-preserved : goal.loop-near-preserved
loop-near-preserved g c =
    let old = c.loop-near.invariant in
    let round = c.spread-round-else-grows_near in
    rw c.grown-far.ensures
    record {
      balls = record {
        near_ball = old.balls.near_ball;
        far_ball = round.ensures.grown c.if-round-2.false;
        apart = apart-turned _ _ round.ensures.apart;
      };
      label = old.label;
      marks = round.ensures.label ∙ old.marks;
      near_few = old.near_few;
      far_few = round.ensures.few;
      start = old.start;
      end = round.ensures.centre ∙ old.end;
      steps = omega (arith, round.ensures.steps, old.steps);
    }

pub returns-clause-found : goal.returns-clause-found
returns-clause-found g c =
    let old = c.loop-near.invariant in (
      omega (arith, old.near_few, c.loop-near.auto.ahead),
      parted c.args.s c.args.t old.balls (omega (arith, c.loop-near-test.false))
          (omega (arith, old.near_few, c.loop-near.auto.ahead)) old.start old.end,
    )

pub returns-clause-steps : goal.returns-clause-steps
returns-clause-steps g c =
    let old = c.loop-near.invariant in
    let work = work-both c.loop-near.near.front c.loop-near.far.front old.balls old.balls.near_ball.ordered
    old.balls.far_ball.ordered in
    omega (arith, work, old.steps)
