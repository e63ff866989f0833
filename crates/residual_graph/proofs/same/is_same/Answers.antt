use Rattle.std.proofs.Common.{refl, arith}
use Rattle.std.proofs.lemmas.Grind.{common_steps}
use Rattle.residual_graph.proofs.Words.{none_left, none_right, none_together}
use Rattle.residual_graph.proofs.same.is_same.Goals as goal

pub loop-i-preserved : goal.loop-i-preserved
loop-i-preserved c = record {
  told = λ none.
      let old = c.loop-i.invariant.told (none_left c.loop-i.wrong c.differing-wrong.result none) in
      let now = c.differing-wrong.ensures.0 (none_right c.loop-i.wrong c.differing-wrong.result none) in
      grind (arith, common_steps, old, now);
  kept = λ same.
      none_together c.loop-i.wrong c.differing-wrong.result (c.loop-i.invariant.kept same)
      (c.differing-wrong.ensures.1 (rw same refl));
}
