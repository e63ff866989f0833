use Rattle.std.proofs.Common.{◌≡◌, ◌≢◌, suc, true, sym, ◌∙◌, arith}
use Rattle.std.proofs.lemmas.List.{length-set, get_or-set_other}
use Rattle.cut_model.specs.Terminals.{root_of}
use Rattle.cut_model.proofs.Terminals.{terminal-lt}
use Rattle.tree_state.specs.Views.{up_of}
use Rattle.path_minimum.specs.Depths.{depth_of}
use Rattle.path_minimum.proofs.Depths.{depth_of-suc}
use Rattle.path_minimum.proofs.Marks.{marked-more, marked-all}
use Rattle.path_minimum.proofs.ordered_path.mark_way.Goals as goal

pub put-requires : goal.put-requires
put-requires c = omega (
  arith,
  c.loop-at.invariant.size,
  terminal-lt c.args.finished.now.tree.net c.loop-at.at c.loop-at.invariant.at_is,
)

pub up-at-requires : goal.up-at-requires
up-at-requires c = terminal-lt c.args.finished.now.tree.net c.loop-at.at c.loop-at.invariant.at_is

pub loop-at-smaller : goal.loop-at-smaller
loop-at-smaller c =
    let step : depth_of c.args.finished.now.tree c.loop-at.at
    ≡ suc (depth_of c.args.finished.now.tree (up_of c.args.finished.now.tree c.loop-at.at)) =
    depth_of-suc c.args.finished.now.tree c.net.ensures.tree c.loop-at.at
    (terminal-lt c.args.finished.now.tree.net c.loop-at.at c.loop-at.invariant.at_is)
    (λ e. c.loop-at-test.true (e ∙ sym c.root-root.ensures.value)) in
    rw c.up-at.ensures.value (omega arith)

pub loop-at-preserved : goal.loop-at-preserved
loop-at-preserved c =
    let tree = c.args.finished.now.tree in
    let before = c.loop-at.invariant in
    let not_root : c.loop-at.at ≢ root_of tree.net =
    λ e. c.loop-at-test.true (e ∙ sym c.root-root.ensures.value) in
    record {
      at_is = rw c.up-at.ensures.value
          (c.net.ensures.tree.up_is c.loop-at.at (terminal-lt tree.net c.loop-at.at before.at_is));
      size = rw c.put.ensures (length-set c.loop-at.marks c.loop-at.at true ∙ before.size);
      root = rw c.put.ensures
          (get_or-set_other c.loop-at.marks c.loop-at.at (root_of tree.net) true _ (λ e. not_root (sym e))
          ∙ before.root);
      marked = λ r low other. rw (c.put.ensures, c.up-at.ensures.value)
          (marked-more tree c.net.ensures.tree c.loop-at.marks c.args.router c.loop-at.at before.at_is before.size r
          other (before.marked r low other));
    }

pub returns-clause-marks : goal.returns-clause-marks
returns-clause-marks c =
    let tree = c.args.finished.now.tree in
    let here : c.loop-at.at ≡ root_of tree.net = c.loop-at-test.false ∙ c.root-root.ensures.value in
    rw (c.put-2.ensures, c.root-root.ensures.value)
    (marked-all tree c.net.ensures.tree c.loop-at.marks c.args.router c.requires c.loop-at.invariant.size
    (rw here at c.loop-at.invariant.marked))
