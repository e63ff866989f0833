use Rattle.std.proofs.Common.{◌≡◌, ◌<◌, false}
use Rattle.cut_model.specs.Cuts.{set_of}
use Rattle.path_minimum.specs.Depths.{depth_of}
use Rattle.path_minimum.proofs.walk.Draft.highest_unplaced.Given as goal

-- the router has no place
abbrev pub invariant-loop-at : goal.invariant-loop-at
invariant-loop-at l = record {
  within : l.at < l.finished.tree.net.routers;
  free : set_of l.self.placed l.at ≡ false;
}

abbrev pub decreases-loop-at : goal.decreases-loop-at
decreases-loop-at l = depth_of l.finished.tree l.at
