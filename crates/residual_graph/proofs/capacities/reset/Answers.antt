use Rattle.std.proofs.Common.{arith}
use Rattle.residual_graph.proofs.Pairs.{caps-but-fewer, caps-but-none}
use Rattle.residual_graph.proofs.capacities.reset.Goals as goal

pub loop-link-preserved : goal.loop-link-preserved
loop-link-preserved c =
    let inside = c.requires.touched c.loop-link.link-index 0 (omega arith) in
    caps-but-fewer c.args.links.now c.loop-link.left c.args.touched.now c.loop-link.link-index (omega arith)
    (omega (arith, inside)) c.loop-link.invariant

pub returns : goal.returns
returns c =
    caps-but-none c.args.links.now c.loop-link.left c.args.touched.now c.loop-link.link-index (omega arith)
    c.loop-link.invariant
