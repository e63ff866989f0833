use Rattle.std.proofs.Common.{◌≡◌, ℕ, ◌&&◌}
use Rattle.cut_model.specs.Terminals.{IsTerminal}
use Rattle.tree_state.specs.Views.{up_of}
use Rattle.tree_state.specs.Tables.{below}
use Rattle.path_minimum.specs.Depths.{depth_of}
use Rattle.path_minimum.proofs.ordered_path.meeting_of.Given as goal

-- what has both terminals below it has the first one and this router below it
abbrev pub invariant-loop-marks : goal.invariant-loop-marks
invariant-loop-marks l = record {
  at_is : IsTerminal l.finished.tree.net l.at;
  shared :
      (c : ℕ) → (below l.finished.tree.net.routers (up_of l.finished.tree) c l.a
      && below l.finished.tree.net.routers (up_of l.finished.tree) c l.b)
      ≡ (below l.finished.tree.net.routers (up_of l.finished.tree) c l.a
      && below l.finished.tree.net.routers (up_of l.finished.tree) c l.at);
}

abbrev pub decreases-loop-marks : goal.decreases-loop-marks
decreases-loop-marks l = depth_of l.finished.tree l.at
