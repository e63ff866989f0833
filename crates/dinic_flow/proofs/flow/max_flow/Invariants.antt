use Rattle.std.proofs.Common.{◌≡◌, ◌-◌, length}
use Rattle.dinic_flow.proofs.Growing.{ends_of, HasGrown}
use Rattle.dinic_flow.proofs.flow.max_flow.Given as goal

abbrev pub invariant-loop-graph : goal.invariant-loop-graph
invariant-loop-graph g l = record {
  grown :
      HasGrown (ends_of l.threshold l.s l.t) l.fn.graph l.fn.steps
      (record { view = l.graph; value = l.value; phases = l.phases; steps = l.steps });
  label : length l.label ≡ length l.fn.label;
  marks : length l.marks ≡ length l.fn.marks;
}

abbrev pub decreases-loop-graph : goal.decreases-loop-graph
decreases-loop-graph g l = l.graph.net.routers - l.phases
