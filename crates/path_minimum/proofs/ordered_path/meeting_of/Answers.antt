use Rattle.std.proofs.Common.{◌≡◌, suc, ◌<◌, false, sym, ◌∙◌, ap, arith}
use Rattle.std.proofs.lemmas.Bool.{false≢true}
use Rattle.cut_model.proofs.Terminals.{terminal-lt}
use Rattle.tree_state.specs.Views.{up_of}
use Rattle.path_minimum.specs.Depths.{depth_of}
use Rattle.path_minimum.proofs.Depths.{tree_in, depth_of-suc}
use Rattle.path_minimum.proofs.Marks.{below_in, shared-more, shared-all}
use Rattle.path_minimum.proofs.ordered_path.meeting_of.Goals as goal

pub has-requires : goal.has-requires
has-requires c = omega (
  arith,
  c.mark_way-marks.ensures.marks.size,
  terminal-lt c.args.finished.now.tree.net c.loop-marks.at c.loop-marks.invariant.at_is,
)

pub up-at-requires : goal.up-at-requires
up-at-requires c = terminal-lt c.args.finished.now.tree.net c.loop-marks.at c.loop-marks.invariant.at_is

pub loop-marks-smaller : goal.loop-marks-smaller
loop-marks-smaller c =
    let tree = c.args.finished.now.tree in
    let low : c.loop-marks.at < tree.net.routers = terminal-lt tree.net c.loop-marks.at c.loop-marks.invariant.at_is in
    let lacks : below_in tree c.loop-marks.at c.args.a ≡ false =
    sym (c.mark_way-marks.ensures.marks.shows c.loop-marks.at low) ∙ (sym c.has.ensures ∙ c.loop-marks-test.true) in
    let step : depth_of tree c.loop-marks.at ≡ suc (depth_of tree (up_of tree c.loop-marks.at)) =
    depth_of-suc tree c.mark_way-marks.ensures.tree c.loop-marks.at low (λ e.
    false≢true (sym lacks ∙ (ap (λ r. below_in tree r c.args.a) e
    ∙ (tree_in tree c.mark_way-marks.ensures.tree).meets c.args.a c.requires.a))) in
    rw c.up-at.ensures.value (omega arith)

pub loop-marks-preserved : goal.loop-marks-preserved
loop-marks-preserved c =
    let tree = c.args.finished.now.tree in
    let before = c.loop-marks.invariant in
    let low : c.loop-marks.at < tree.net.routers = terminal-lt tree.net c.loop-marks.at before.at_is in
    let lacks : below_in tree c.loop-marks.at c.args.a ≡ false =
    sym (c.mark_way-marks.ensures.marks.shows c.loop-marks.at low) ∙ (sym c.has.ensures ∙ c.loop-marks-test.true) in
    record {
      at_is = rw c.up-at.ensures.value (c.mark_way-marks.ensures.tree.up_is c.loop-marks.at low);
      shared = λ r. rw c.up-at.ensures.value (before.shared r
          ∙ shared-more tree c.mark_way-marks.ensures.tree c.args.a c.loop-marks.at c.requires.a before.at_is lacks r);
    }

pub returns-clause-meeting : goal.returns-clause-meeting
returns-clause-meeting c =
    let tree = c.args.finished.now.tree in
    let low : c.loop-marks.at < tree.net.routers = terminal-lt tree.net c.loop-marks.at c.loop-marks.invariant.at_is in
    shared-all tree c.mark_way-marks.ensures.tree c.args.a c.args.b c.loop-marks.at c.requires.a
    c.loop-marks.invariant.at_is
    (sym (c.mark_way-marks.ensures.marks.shows c.loop-marks.at low) ∙ (sym c.has.ensures ∙ c.loop-marks-test.false))
    c.loop-marks.invariant.shared
