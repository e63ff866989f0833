use Rattle.std.proofs.Common.{◌≡◌, ◌⊎◌, ◌<◌, ℕ, true, length}
use Rattle.std.specs.Prelude.{slice_index}
use Rattle.cut_model.specs.Cuts.{set_of}
use Rattle.tree_state.specs.Tables.{below}
use Rattle.certifier.specs.Ways.{AreMarks, AreDecidedFor}
use Rattle.certifier.proofs.Hanging.{height}
use Rattle.certifier.proofs.ways.decide_way.Given as goal

-- the way so far is decided, and rightly where the next router is like the first
abbrev pub invariant-loop-decided : goal.invariant-loop-decided
invariant-loop-decided l = record {
  within : l.above < length l.up;
  marked : AreMarks l.up l.decided l.inside;
  begun : (l.above ≡ l.router) ⊎ (set_of l.decided l.router ≡ true);
  kept : (r : ℕ) → set_of l.initial.decided r ≡ true → set_of l.decided r ≡ true;
  right :
      (c : ℕ) → AreDecidedFor l.up c l.initial.decided l.initial.inside →
      l.is_below ≡ below (length l.up) (slice_index l.up) c l.router →
      AreDecidedFor l.up c l.decided l.inside
      × (l.is_below ≡ below (length l.up) (slice_index l.up) c l.above);
}

abbrev pub decreases-loop-decided : goal.decreases-loop-decided
decreases-loop-decided l = height l.up l.above
