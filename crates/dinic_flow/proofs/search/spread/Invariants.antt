use Rattle.std.proofs.Common.{ℕ, ◌+◌, ◌<◌, ◌≤◌, get_or}
use Rattle.dinic_flow.specs.Balls.{search_of, reached_of, IsLabelled, Grows, AreApart, IsClosedAt, work_of}
use Rattle.dinic_flow.proofs.search.spread.Given as goal

abbrev pub invariant-loop-done : goal.invariant-loop-done
invariant-loop-done g l = record {
  labelled : IsLabelled (search_of l.graph l.threshold) l.back (reached_of l.label l.queue l.known);
  grows : Grows (reached_of l.fn.label l.fn.queue l.ball.known) (reached_of l.label l.queue l.known)
      (l.ball.radius + 2);
  apart : AreApart l.label l.other;
  closed : (k : ℕ) → k < l.done →
      IsClosedAt (search_of l.graph l.threshold) l.back l.label (get_or l.queue k 0);
  steps : l.steps + work_of l.graph.net l.fn.queue l.ball.front ≤ l.fn.steps + work_of l.graph.net l.queue l.done;
}
