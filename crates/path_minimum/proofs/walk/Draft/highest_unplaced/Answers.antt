use Rattle.std.proofs.Common.{sym, ◌∙◌, ap, arith}
use Rattle.std.proofs.lemmas.Bool.{false≢true}
use Rattle.cut_model.specs.Cuts.{set_of}
use Rattle.path_minimum.proofs.Depths.{depth_of-suc}
use Rattle.path_minimum.proofs.Drafting.{drafted-top}
use Rattle.path_minimum.proofs.walk.Draft.highest_unplaced.Goals as goal

pub loop-at-smaller : goal.loop-at-smaller
loop-at-smaller c =
    let tree = c.args.finished.now.tree in
    let self = c.args.self.now in
    rw c.up-at.ensures.value (omega (
      arith,
      depth_of-suc tree c.requires.tree c.loop-at.at c.loop-at.invariant.within
          (λ top. false≢true (sym c.loop-at.invariant.free ∙ (ap (set_of self.placed) top
          ∙ drafted-top tree self.order.items self.placed self.hints.items c.requires.draft))),
    ))
