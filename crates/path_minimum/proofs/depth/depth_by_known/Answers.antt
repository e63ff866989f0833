use Rattle.std.proofs.Common.{◌≡◌, suc, sym, ◌∙◌, arith}
use Rattle.tree_state.specs.Views.{up_of}
use Rattle.path_minimum.specs.Depths.{depth_of}
use Rattle.path_minimum.proofs.Depths.{depth_of-lt}
use Rattle.path_minimum.proofs.Known.{depth-unknown}
use Rattle.path_minimum.proofs.depth.depth_by_known.Goals as goal

pub overflow_add-steps : goal.overflow_add-steps
overflow_add-steps c =
    let step : depth_of c.args.finished.now.tree c.loop-at.at
    ≡ suc (depth_of c.args.finished.now.tree (up_of c.args.finished.now.tree c.loop-at.at)) =
    depth-unknown c.args.finished.now.tree c.args.known.now c.args.depths.now c.loop-at.at c.requires.tree
    c.requires.known c.loop-at.invariant.within (sym c.has.ensures ∙ c.loop-at-test.true) in
    omega (arith, depth_of-lt c.args.finished.now.tree c.requires.tree c.args.router)

pub loop-at-smaller : goal.loop-at-smaller
loop-at-smaller c =
    let step : depth_of c.args.finished.now.tree c.loop-at.at
    ≡ suc (depth_of c.args.finished.now.tree (up_of c.args.finished.now.tree c.loop-at.at)) =
    depth-unknown c.args.finished.now.tree c.args.known.now c.args.depths.now c.loop-at.at c.requires.tree
    c.requires.known c.loop-at.invariant.within (sym c.has.ensures ∙ c.loop-at-test.true) in
    rw c.up-at.ensures.value (omega arith)

pub loop-at-preserved : goal.loop-at-preserved
loop-at-preserved c = record {
  within = c.up-at.ensures.within;
  sum =
      let step : depth_of c.args.finished.now.tree c.loop-at.at
      ≡ suc (depth_of c.args.finished.now.tree (up_of c.args.finished.now.tree c.loop-at.at)) =
      depth-unknown c.args.finished.now.tree c.args.known.now c.args.depths.now c.loop-at.at c.requires.tree
      c.requires.known c.loop-at.invariant.within (sym c.has.ensures ∙ c.loop-at-test.true) in
      rw c.up-at.ensures.value (omega arith);
}

pub overflow_add-result : goal.overflow_add-result
overflow_add-result c =
    let depth = c.requires.known.depth_is c.loop-at.at c.loop-at.invariant.within
    (sym c.has.ensures ∙ c.loop-at-test.false) in
    omega (arith, depth, depth_of-lt c.args.finished.now.tree c.requires.tree c.args.router)
