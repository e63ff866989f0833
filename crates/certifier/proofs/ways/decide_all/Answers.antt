use Rattle.std.proofs.Common.{inl, inr, arith}
use Rattle.std.proofs.lemmas.Bool.{cases_eq}
use Rattle.certifier.proofs.ways.decide_all.Goals as goal

pub loop-router-preserved : goal.loop-router-preserved
loop-router-preserved c = record {
  marked = c.decide_way.ensures.marked;
  done = λ r low. elim (cases_eq r c.loop-router.router) [
    | inl here ↦ rw here c.decide_way.ensures.router
    | inr ne ↦ c.decide_way.ensures.kept r (c.loop-router.invariant.done r (omega arith))
  ];
  right = λ child was. let now = c.loop-router.invariant.right child was in
      c.decide_way.ensures.decided child now (c.is_below-is_below.ensures child now);
}
