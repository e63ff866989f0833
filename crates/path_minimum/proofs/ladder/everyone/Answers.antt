use Rattle.std.proofs.Common.{length, false, true, ap, ◌∙◌, arith}
use Rattle.std.proofs.lemmas.List.{length-replicate}
use Rattle.cut_model.specs.Net.{Net}
use Rattle.path_minimum.proofs.Marking.{all-same}
use Rattle.path_minimum.proofs.ladder.everyone.Goals as goal

pub returns : goal.returns
returns c =
    all-same c.loop-router.side c.args.finished.now.tree.net.routers true c.loop-router.invariant.size
    (λ r low. c.loop-router.invariant.before r (omega (
      arith,
      low,
      c.loop-router-test.false,
      c.size-router-end.ensures.size,
      ap length c.empty-side.ensures,
      length-replicate c.routers.result false,
      c.routers.ensures.value,
      ap (λ (net : Net). net.routers) (c.deref.ensures ∙ c.net.ensures.value),
    )))
