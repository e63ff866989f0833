use Rattle.std.proofs.Common.{◌≡◌, ℕ, ◌-◌, ◌^◌, ◌≤◌, length}
use Rattle.path_minimum.specs.Jumps.{AreRungs}
use Rattle.path_minimum.proofs.rungs.make_rungs.Given as goal

-- the rungs so far, none of which was too many
abbrev pub invariant-loop-reach : goal.invariant-loop-reach
invariant-loop-reach l = record {
  rungs_are : AreRungs l.finished.tree l.rungs.items;
  reach_is : l.reach ≡ 2 ^ length l.rungs.items;
  fewest : (levels : ℕ) → l.finished.tree.net.routers ≤ 2 ^ levels → length l.rungs.items ≤ levels;
}

abbrev pub decreases-loop-reach : goal.decreases-loop-reach
decreases-loop-reach l = l.finished.tree.net.routers - l.reach
