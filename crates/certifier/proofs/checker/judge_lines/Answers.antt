use Rattle.std.proofs.Common.{◌∙◌}
use Rattle.certifier.proofs.checker.judge_lines.Goals as goal

pub steps-preserved : goal.steps-preserved
steps-preserved g c = record {
  goes = c.in_default-step.ensures.goes (g.P.LazyPeer.wire c.args.peer.now) c.steps.invariant.goes;
  sound = c.in_default-step.ensures.sound;
  written = c.in_default-step.ensures.written ∙ c.steps.invariant.written;
  reads = c.in_default-step.ensures.read_count.still ∙ c.steps.invariant.reads;
  writes = c.in_default-step.ensures.write_count ∙ c.steps.invariant.writes;
  beside = c.in_default-step.ensures.beside ∙ c.steps.invariant.beside;
}
