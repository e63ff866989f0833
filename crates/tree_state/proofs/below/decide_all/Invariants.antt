use Rattle.std.proofs.Common.{◌≡◌, ◌<◌, ℕ, true}
use Rattle.cut_model.specs.Cuts.{set_of}
use Rattle.tree_state.specs.Below.{IsMarked, IsDecidedFor}
use Rattle.tree_state.proofs.below.decide_all.Given as goal

-- the routers before this one are decided, and all decided ones rightly
abbrev pub invariant-loop-router : goal.invariant-loop-router
invariant-loop-router l = record {
  marked : IsMarked l.finished.tree l.decided l.inside;
  done : (r : ℕ) → r < l.router → set_of l.decided r ≡ true;
  right :
      (c : ℕ) → IsDecidedFor l.finished.tree c l.initial.decided l.initial.inside →
      IsDecidedFor l.finished.tree c l.decided l.inside;
}
