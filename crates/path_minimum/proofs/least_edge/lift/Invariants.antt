use Rattle.std.proofs.Common.{◌≡◌, ℕ, ◌+◌, ◌^◌, ◌<◌, ◌≤◌, length}
use Rattle.cut_model.specs.Terminals.{IsTerminal}
use Rattle.path_minimum.specs.Depths.{depth_of}
use Rattle.path_minimum.specs.Passing.{HasPassed}
use Rattle.path_minimum.proofs.least_edge.lift.Given as goal

-- what is left is less than the shortest jump that was tried
abbrev pub invariant-loop-level : goal.invariant-loop-level
invariant-loop-level g l = record {
  x_is : IsTerminal l.finished.tree.net l.ends.x;
  y_same : l.ends.y ≡ l.fn.from.y;
  depth : depth_of l.finished.tree l.ends.x ≡ depth_of l.finished.tree l.ends.y + l.left;
  short : l.left < 2 ^ l.level;
  tried : l.level ≤ length l.ladder.rungs;
  steps : l.steps + l.level ≤ l.fn.steps + length l.ladder.rungs;
  passed : (a b : ℕ) → HasPassed l.finished.tree a b l.fn.from → HasPassed l.finished.tree a b l.ends;
}

abbrev pub decreases-loop-level : goal.decreases-loop-level
decreases-loop-level g l = l.level
