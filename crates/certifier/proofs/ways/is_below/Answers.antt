use Rattle.std.proofs.Common.{rules, ◌≡◌, ◌≢◌, ◌∙◌, sym, false}
use Rattle.cut_model.specs.Cuts.{set_of}
use Rattle.tree_state.proofs.Decided.{undecided-other}
use Rattle.certifier.proofs.Hanging.{height-up, below-up}
use Rattle.certifier.proofs.ways.is_below.Goals as goal

pub loop-above-smaller : goal.loop-above-smaller
loop-above-smaller c =
    let free : set_of c.args.decided.now c.loop-above.above ≡ false = search rules in
    height-up c.requires.marked.root c.args.up.now c.requires.marked.hang c.loop-above.above
    c.loop-above.invariant.within
    (undecided-other c.args.decided.now c.loop-above.above c.requires.marked.root free c.requires.marked.at_root)

pub loop-above-preserved : goal.loop-above-preserved
loop-above-preserved c =
    let free : set_of c.args.decided.now c.loop-above.above ≡ false = search rules in
    let below_top : c.loop-above.above ≢ c.requires.marked.root =
    undecided-other c.args.decided.now c.loop-above.above c.requires.marked.root free
    c.requires.marked.at_root in
    record {
      within = c.requires.marked.hang.routers.within c.loop-above.above c.loop-above.invariant.within;
      alike = λ child right.
          sym (below-up c.requires.marked.root c.args.up.now c.requires.marked.hang child c.loop-above.above
          c.loop-above.invariant.within below_top
          (undecided-other c.args.decided.now c.loop-above.above child free right.child))
          ∙ c.loop-above.invariant.alike child right;
    }
