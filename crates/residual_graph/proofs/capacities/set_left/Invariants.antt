use Rattle.std.proofs.Common.{ℕ, ◌<◌}
use Rattle.residual_graph.specs.Fills.{HasCap}
use Rattle.residual_graph.proofs.capacities.set_left.Given as goal

abbrev pub invariant-loop-i : goal.invariant-loop-i
invariant-loop-i l = (k : ℕ) → k < l.i → HasCap l.links l.left k
