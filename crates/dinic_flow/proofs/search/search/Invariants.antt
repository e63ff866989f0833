use Rattle.std.proofs.Common.{◌≡◌, ◌+◌, ◌-◌, ◌≤◌, length, get_or}
use Rattle.dinic_flow.specs.Balls.{search_of, ball_of, AreBalls, work_of}
use Rattle.dinic_flow.proofs.search.search.Given as goal

abbrev pub invariant-loop-near : goal.invariant-loop-near
invariant-loop-near g l = record {
  balls : AreBalls (search_of l.graph l.threshold) (ball_of l.label l.ahead l.near) (ball_of l.marks l.behind l.far);
  label : length l.label ≡ length l.fn.label;
  marks : length l.marks ≡ length l.fn.marks;
  near_few : l.near.known ≤ l.graph.net.routers;
  far_few : l.far.known ≤ l.graph.net.routers;
  start : get_or l.ahead 0 0 ≡ l.s;
  end : get_or l.behind 0 0 ≡ l.t;
  steps : l.steps ≤ l.fn.steps + work_of l.graph.net l.ahead l.near.front + work_of l.graph.net l.behind l.far.front;
}

abbrev pub decreases-loop-near : goal.decreases-loop-near
decreases-loop-near g l = (length l.initial.ahead - l.near.front) + (length l.initial.behind - l.far.front)
