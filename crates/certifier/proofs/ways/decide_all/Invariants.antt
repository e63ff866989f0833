use Rattle.std.proofs.Common.{◌≡◌, ◌<◌, ℕ, true}
use Rattle.cut_model.specs.Cuts.{set_of}
use Rattle.certifier.specs.Ways.{AreMarks, AreDecidedFor}
use Rattle.certifier.proofs.ways.decide_all.Given as goal

-- the routers before this one are decided, and all decided ones rightly
abbrev pub invariant-loop-router : goal.invariant-loop-router
invariant-loop-router l = record {
  marked : AreMarks l.up l.decided l.inside;
  done : (r : ℕ) → r < l.router → set_of l.decided r ≡ true;
  right :
      (c : ℕ) → AreDecidedFor l.up c l.initial.decided l.initial.inside →
      AreDecidedFor l.up c l.decided l.inside;
}
