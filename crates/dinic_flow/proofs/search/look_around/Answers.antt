-- The loop goes over just the arcs that leave the router.
use Rattle.std.proofs.Common.{ℕ, subst, arith, rules}
use Rattle.residual_graph.specs.Places.{no_place}
use Rattle.dinic_flow.specs.Balls.{Crosses, search_of}
use Rattle.dinic_flow.proofs.Entering.{grows-more}
use Rattle.dinic_flow.proofs.Rounds.{reached-more, reached-all}
use Rattle.dinic_flow.proofs.search.look_around.Goals as goal

pub returns-then-round-clause-grows : goal.returns-then-round-clause-grows
returns-then-round-clause-grows g c =
    grows-more (omega (arith, c.requires.level)) c.loop-place.invariant.grows c.reach-round.ensures.grows

pub returns-then-round-clause-crosses : goal.returns-then-round-clause-crosses
returns-then-round-clause-crosses g c = λ joined.
    let search = search_of c.args.graph.now c.args.threshold in
    let place = c.places_of-place-items.ensures.each c.loop-place.place-index no_place c.loop-place-test.true in
    subst (λ (r : ℕ). Crosses search c.args.back c.args.other.now r) place.tail
    (c.reach-round.ensures.crosses joined)

pub loop-place-preserved : goal.loop-place-preserved
loop-place-preserved g c = record {
  labelled = c.reach-round.ensures.labelled;
  grows = grows-more (omega (arith, c.requires.level)) c.loop-place.invariant.grows c.reach-round.ensures.grows;
  apart = c.reach-round.ensures.apart;
  reached = reached-more (search_of c.args.graph.now c.args.threshold) c.args.back
      c.places_of-place-items.result.now c.loop-place.place-index c.reach-round.ensures.grows
      c.loop-place.invariant.reached (c.reach-round.ensures.reached (search rules));
  steps = omega (arith, c.reach-round.ensures.steps, c.loop-place.invariant.steps);
}

pub returns-clause-reached : goal.returns-clause-reached
returns-clause-reached g c = λ _ v leads.
    reached-all (search_of c.args.graph.now c.args.threshold) c.args.back c.places_of-place-items.result.now
    c.loop-place.label c.args.router v c.places_of-place-items.ensures.every
    (λ k short. c.loop-place.invariant.reached k (omega (arith, short, c.loop-place-test.false))) leads
