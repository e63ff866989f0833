use Rattle.std.proofs.Common.{◌≡◌, ◌+◌, ◌<◌}
use Rattle.path_minimum.specs.Depths.{depth_of}
use Rattle.path_minimum.proofs.depth.depth_by_known.Given as goal

-- so many steps lead to the router, whose depth is that much smaller
abbrev pub invariant-loop-at : goal.invariant-loop-at
invariant-loop-at l = record {
  within : l.at < l.finished.tree.net.routers;
  sum : l.steps + depth_of l.finished.tree l.at ≡ depth_of l.finished.tree l.router;
}

abbrev pub decreases-loop-at : goal.decreases-loop-at
decreases-loop-at l = depth_of l.finished.tree l.at
