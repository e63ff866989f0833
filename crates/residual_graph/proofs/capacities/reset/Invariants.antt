use Rattle.std.proofs.Common.{drop}
use Rattle.residual_graph.specs.Fills.{HasCapsBut}
use Rattle.residual_graph.proofs.capacities.reset.Given as goal

abbrev pub invariant-loop-link : goal.invariant-loop-link
invariant-loop-link l = HasCapsBut l.links l.left (drop l.link-index l.touched)
