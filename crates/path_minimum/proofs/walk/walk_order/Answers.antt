use Rattle.std.proofs.Common.{ap, ◌∙◌, arith}
use Rattle.cut_model.specs.Net.{Net}
use Rattle.path_minimum.proofs.Drafting.{drafted-all}
use Rattle.path_minimum.proofs.walk.walk_order.Goals as goal

pub returns : goal.returns
returns c =
    let draft = c.loop-router.draft in
    drafted-all c.args.finished.now.tree draft.order.items draft.placed draft.hints.items
    c.loop-router.invariant.draft_is
    (λ r low. c.loop-router.invariant.before r (omega (
      arith,
      low,
      c.loop-router-test.false,
      c.routers-router-end.ensures.value,
      ap (λ (net : Net). net.routers) (c.deref.ensures ∙ c.net.ensures.value),
    )))
