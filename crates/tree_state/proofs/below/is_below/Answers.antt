use Rattle.std.proofs.Common.{rules, ◌≡◌, ◌≢◌, ◌∙◌, sym, false}
use Rattle.cut_model.specs.Cuts.{set_of}
use Rattle.cut_model.specs.Terminals.{root_of}
use Rattle.tree_state.proofs.Decided.{height-up, below-up, undecided-other}
use Rattle.tree_state.proofs.below.is_below.Goals as goal

pub loop-above-smaller : goal.loop-above-smaller
loop-above-smaller c =
    let free : set_of c.args.decided.now c.loop-above.above ≡ false = search rules in
    rw c.up-above.ensures.value
    (height-up c.args.finished.now.tree c.requires.tree c.loop-above.above c.loop-above.invariant.within
    (undecided-other c.args.decided.now c.loop-above.above (root_of c.args.finished.now.tree.net) free
    c.requires.marked.root))

pub loop-above-preserved : goal.loop-above-preserved
loop-above-preserved c =
    let free : set_of c.args.decided.now c.loop-above.above ≡ false = search rules in
    let below_top : c.loop-above.above ≢ root_of c.args.finished.now.tree.net =
    undecided-other c.args.decided.now c.loop-above.above (root_of c.args.finished.now.tree.net) free
    c.requires.marked.root in
    record {
      within = c.up-above.ensures.within;
      alike = λ child right. rw c.up-above.ensures.value
          (sym (below-up c.args.finished.now.tree c.requires.tree child c.loop-above.above
          c.loop-above.invariant.within below_top
          (undecided-other c.args.decided.now c.loop-above.above child free right.child))
          ∙ c.loop-above.invariant.alike child right);
    }
