use Rattle.std.proofs.Common.{sym, ◌∙◌, arith}
use Rattle.path_minimum.proofs.Drafting.{drafted-few}
use Rattle.path_minimum.proofs.walk.Draft.place.Goals as goal

pub loop-self-smaller : goal.loop-self-smaller
loop-self-smaller c =
    let self = c.loop-self.self in
    omega (
      arith,
      c.in_ok-put.ensures.count,
      drafted-few c.args.finished.now.tree self.order.items self.placed self.hints.items c.args.router
          c.loop-self.invariant.draft c.requires.router (sym c.has.ensures ∙ c.loop-self-test.true),
    )
