use Rattle.std.proofs.Common.{◌≡◌, ◌≢◌, ℕ, ◌<◌, true}
use Rattle.cut_model.specs.Cuts.{set_of}
use Rattle.path_minimum.specs.Depths.{depth_of}
use Rattle.path_minimum.specs.Walks.{AreKnown}
use Rattle.path_minimum.proofs.depth.note_way.Given as goal

-- the router has the depth that is left, and once the walk has left the first one, that is known
abbrev pub invariant-loop-known : goal.invariant-loop-known
invariant-loop-known l = record {
  within : l.at < l.finished.tree.net.routers;
  depth : l.left ≡ depth_of l.finished.tree l.at;
  known : AreKnown l.finished.tree l.known l.depths;
  noted : l.at ≢ l.router → set_of l.known l.router ≡ true;
  kept : (c : ℕ) → set_of l.fn.known c ≡ true → set_of l.known c ≡ true;
}

abbrev pub decreases-loop-known : goal.decreases-loop-known
decreases-loop-known l = depth_of l.finished.tree l.at
