use Rattle.std.proofs.Common.{ap, sym, arith, ◌∙◌}
use Rattle.cut_model.specs.declared.network.Link.{Link}
use Rattle.residual_graph.proofs.Words.{ends_of, same_links, no_difference, none_together}
use Rattle.residual_graph.proofs.same.differing.Goals as goal

pub returns : goal.returns
returns c = (
  λ none. same_links c.args.ours c.args.theirs
      (omega arith) (omega arith) (omega arith) (omega arith) (omega arith) (omega arith)
      (rw (← c.ends.ensures, ← c.ends-2.ensures) none),
  λ same. none_together _ _
      (no_difference c.args.ours.cap c.args.theirs.cap (ap (λ (link : Link). link.cap) same))
      (no_difference c.ends.result c.ends-2.result (c.ends.ensures ∙ ap ends_of same ∙ sym c.ends-2.ensures)),
)
