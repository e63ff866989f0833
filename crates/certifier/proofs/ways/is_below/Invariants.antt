use Rattle.std.proofs.Common.{◌≡◌, ◌<◌, ℕ, length}
use Rattle.std.specs.Prelude.{slice_index}
use Rattle.tree_state.specs.Tables.{below}
use Rattle.certifier.specs.Ways.{AreDecidedFor}
use Rattle.certifier.proofs.Hanging.{height}
use Rattle.certifier.proofs.ways.is_below.Given as goal

-- the router above and the one below are alike
abbrev pub invariant-loop-above : goal.invariant-loop-above
invariant-loop-above l = record {
  within : l.above < length l.up;
  alike :
      (c : ℕ) → AreDecidedFor l.up c l.decided l.inside →
      below (length l.up) (slice_index l.up) c l.above
      ≡ below (length l.up) (slice_index l.up) c l.router;
}

abbrev pub decreases-loop-above : goal.decreases-loop-above
decreases-loop-above l = height l.up l.above
