-- The front is within the queue, and what is followed stays closed.
use Rattle.std.proofs.Common.{◌+◌, ◌<◌, get_or, arith, rules}
use Rattle.dinic_flow.specs.Balls.{search_of, reached_of, work_of}
use Rattle.dinic_flow.proofs.Entering.{grows-more}
use Rattle.dinic_flow.proofs.Spreading.{known-most, all_closed-kept, all_closed-more, rim-kept, closed-here}
use Rattle.dinic_flow.proofs.Spreading.{stopped-ball, grown-ball, work-more, work-mono}
use Rattle.dinic_flow.proofs.search.spread.Goals as goal

pub offset_bounds-queue-done : goal.offset_bounds-queue-done
offset_bounds-queue-done g c =
    let most = known-most c.requires.ball.labelled in
    omega (arith, most, c.requires.limit, c.loop-done-test.true)

pub bounds-queue-done : goal.bounds-queue-done
bounds-queue-done g c =
    let most = known-most c.requires.ball.labelled in
    omega (arith, most, c.requires.queue, c.loop-done-test.true, c.loop-done.auto.queue)

pub overflow_add-ball : goal.overflow_add-ball
overflow_add-ball g c =
    let most = known-most c.requires.ball.labelled in
    omega (arith, most, c.requires.limit, c.requires.some, c.requires.ball.deep)

pub returns-then-round-clause-stopped : goal.returns-then-round-clause-stopped
returns-then-round-clause-stopped g c = λ joined.
    let grows = grows-more (omega arith) c.loop-done.invariant.grows c.look_around-round.ensures.grows in
    stopped-ball (search_of c.args.graph.now c.args.threshold) c.args.back c.args.label.now c.args.queue.now
    c.args.ball
    c.requires.ball (reached_of c.look_around-round.new.label c.look_around-round.new.queue
    c.look_around-round.result.known) grows c.look_around-round.ensures.labelled

pub returns-then-round-clause-meets : goal.returns-then-round-clause-meets
returns-then-round-clause-meets g c = λ joined.
    let grows = grows-more (omega arith) c.loop-done.invariant.grows c.look_around-round.ensures.grows in
    let same = c.look_around-round.ensures.grows.same c.loop-done.done
    (omega (arith, c.loop-done-test.true, c.loop-done.invariant.grows.more)) in
    record {
      from = get_or c.loop-done.queue c.loop-done.done 0;
      level = rw same at (rim-kept (search_of c.args.graph.now c.args.threshold) c.args.back c.args.label.now
          c.args.queue.now c.args.ball c.requires.ball (reached_of c.look_around-round.new.label
          c.look_around-round.new.queue c.look_around-round.result.known) grows
          c.look_around-round.ensures.labelled c.loop-done.done c.loop-done.auto.done c.loop-done-test.true);
      crosses = c.look_around-round.ensures.crosses joined;
    }

pub returns-then-round-clause-steps : goal.returns-then-round-clause-steps
returns-then-round-clause-steps g c =
    let net = c.args.graph.now.net in
    let more = work-more net c.loop-done.queue c.look_around-round.new.queue c.loop-done.done
    (work_of net c.args.queue.now c.args.ball.front) c.args.steps.now c.loop-done.steps c.look_around-round.new.steps
    (λ i short. c.look_around-round.ensures.grows.same i
    (omega (arith, short, c.loop-done-test.true, c.loop-done.invariant.grows.more)))
    c.loop-done.invariant.steps c.look_around-round.ensures.steps in
    let rest = work-mono net c.look_around-round.new.queue (c.loop-done.done + 1) c.args.ball.known
    (omega (arith, c.loop-done-test.true)) in
    omega (arith, more, rest)

pub loop-done-preserved : goal.loop-done-preserved
loop-done-preserved g c =
    let graph = c.args.graph.now in
    let round = c.look_around-round in
    let over = search_of graph c.args.threshold in
    let reached = reached_of round.new.label round.new.queue round.result.known in
    let grows = grows-more (omega arith) c.loop-done.invariant.grows c.look_around-round.ensures.grows in
    let short : c.loop-done.done < c.loop-done.known =
    omega (arith, c.loop-done-test.true, c.loop-done.invariant.grows.more) in
    let same = round.ensures.grows.same c.loop-done.done short in
    record {
      labelled = round.ensures.labelled;
      grows = grows;
      apart = round.ensures.apart;
      closed = all_closed-more over c.args.back reached c.loop-done.done
          (all_closed-kept c.loop-done.done c.loop-done.invariant.labelled round.ensures.grows
          (omega (arith, short)) c.loop-done.invariant.closed)
          (closed-here over c.args.back c.args.label.now c.args.queue.now c.args.ball c.requires.ball reached
          grows round.ensures.labelled
          c.loop-done.done c.loop-done.auto.done c.loop-done-test.true
          (rw same (round.ensures.reached (search rules))));
      steps = work-more graph.net c.loop-done.queue round.new.queue c.loop-done.done
          (work_of graph.net c.args.queue.now c.args.ball.front) c.args.steps.now c.loop-done.steps round.new.steps
          (λ i below. round.ensures.grows.same i
          (omega (arith, below, c.loop-done-test.true, c.loop-done.invariant.grows.more)))
          c.loop-done.invariant.steps round.ensures.steps;
    }

pub returns-then-round-clause-few : goal.returns-then-round-clause-few
returns-then-round-clause-few g c =
    known-most c.look_around-round.ensures.labelled

pub returns-clause-few : goal.returns-clause-few
returns-clause-few g c =
    known-most c.loop-done.invariant.labelled

pub look_around-round-requires-clause-low : goal.look_around-round-requires-clause-low
look_around-round-requires-clause-low g c =
    let most = known-most c.requires.ball.labelled in
    omega (arith, most, c.requires.limit, c.requires.some, c.requires.ball.deep)

pub returns-clause-grown : goal.returns-clause-grown
returns-clause-grown g c = λ _.
    grown-ball (search_of c.args.graph.now c.args.threshold) c.args.back c.args.label.now c.args.queue.now
    c.args.ball c.requires.ball (reached_of c.loop-done.label c.loop-done.queue c.loop-done.known)
    c.loop-done.invariant.grows c.loop-done.invariant.labelled c.requires.some
    (λ k short. c.loop-done.invariant.closed k (omega (arith, short, c.loop-done-test.false)))
