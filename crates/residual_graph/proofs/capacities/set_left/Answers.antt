use Rattle.std.proofs.Common.{arith}
use Rattle.residual_graph.proofs.Pairs.{caps-more}
use Rattle.residual_graph.proofs.capacities.set_left.Goals as goal

pub loop-i-preserved : goal.loop-i-preserved
loop-i-preserved c = caps-more c.args.links.now c.loop-i.left c.loop-i.i (omega arith) c.loop-i.invariant
