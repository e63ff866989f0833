use Rattle.std.proofs.Common.{ℕ, ◌+◌, ◌*◌, ◌^◌, ◌≤◌, length}
use Rattle.path_minimum.specs.Passing.{HasPassed, AreApart}
use Rattle.path_minimum.proofs.least_edge.rise.Given as goal

-- the ends are apart by no more than the shortest jump that was tried
abbrev pub invariant-loop-level : goal.invariant-loop-level
invariant-loop-level g l = record {
  ends_are : AreApart l.finished.tree (2 ^ l.level) l.ends;
  tried : l.level ≤ length l.ladder.rungs;
  steps : l.steps + 2 * l.level ≤ l.fn.steps + 2 * length l.ladder.rungs;
  passed : (a b : ℕ) → HasPassed l.finished.tree a b l.fn.from → HasPassed l.finished.tree a b l.ends;
}

abbrev pub decreases-loop-level : goal.decreases-loop-level
decreases-loop-level g l = l.level
