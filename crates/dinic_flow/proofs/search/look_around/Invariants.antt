use Rattle.std.proofs.Common.{ℕ, ◌+◌, ◌<◌, ◌≤◌, get_or}
use Rattle.residual_graph.specs.Arcs.{turned}
use Rattle.residual_graph.specs.Places.{no_place}
use Rattle.dinic_flow.specs.Levels.{IsOpen}
use Rattle.dinic_flow.specs.Balls.{search_of, reached_of, IsLabelled, Grows, AreApart}
use Rattle.dinic_flow.proofs.search.look_around.Given as goal

abbrev pub invariant-loop-place : goal.invariant-loop-place
invariant-loop-place g l = record {
  labelled : IsLabelled (search_of l.graph l.threshold) l.back (reached_of l.label l.queue l.known);
  grows : Grows (reached_of l.fn.label l.fn.queue l.fn.known) (reached_of l.label l.queue l.known) l.next;
  apart : AreApart l.label l.other;
  reached : (k : ℕ) → k < l.place-index →
      IsOpen l.graph l.threshold (turned l.back (get_or l.place-items k no_place).arc) →
      0 < get_or l.label (get_or l.place-items k no_place).head 0;
  steps : l.steps ≤ l.fn.steps + l.place-index;
}
