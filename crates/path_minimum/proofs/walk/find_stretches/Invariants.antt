use Rattle.std.proofs.Common.{◌≡◌, ◌≤◌, length}
use Rattle.path_minimum.specs.Stretches.{AreRunsFrom}
use Rattle.path_minimum.proofs.walk.find_stretches.Given as goal

-- the stretches of the routers from this place on are found
abbrev pub invariant-loop-place : goal.invariant-loop-place
invariant-loop-place l = record {
  size : length l.stretches ≡ length l.fn.stretches;
  fits : l.place ≤ length l.order;
  runs : AreRunsFrom l.depths l.order l.stretches l.place;
}

abbrev pub decreases-loop-place : goal.decreases-loop-place
decreases-loop-place l = l.place
