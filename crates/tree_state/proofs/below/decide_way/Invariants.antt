use Rattle.std.proofs.Common.{◌≡◌, ◌⊎◌, ◌<◌, ℕ, true}
use Rattle.cut_model.specs.Cuts.{set_of}
use Rattle.tree_state.specs.Tables.{below}
use Rattle.tree_state.specs.Views.{up_of}
use Rattle.tree_state.specs.Below.{IsMarked, IsDecidedFor}
use Rattle.tree_state.proofs.Decided.{height}
use Rattle.tree_state.proofs.below.decide_way.Given as goal

-- the way so far is decided, and rightly where the next router is like the first
abbrev pub invariant-loop-decided : goal.invariant-loop-decided
invariant-loop-decided l = record {
  within : l.above < l.finished.tree.net.routers;
  marked : IsMarked l.finished.tree l.decided l.inside;
  begun : (l.above ≡ l.router) ⊎ (set_of l.decided l.router ≡ true);
  kept : (r : ℕ) → set_of l.initial.decided r ≡ true → set_of l.decided r ≡ true;
  right :
      (c : ℕ) → IsDecidedFor l.finished.tree c l.initial.decided l.initial.inside →
      l.is_below ≡ below l.finished.tree.net.routers (up_of l.finished.tree) c l.router →
      IsDecidedFor l.finished.tree c l.decided l.inside
      × (l.is_below ≡ below l.finished.tree.net.routers (up_of l.finished.tree) c l.above);
}

abbrev pub decreases-loop-decided : goal.decreases-loop-decided
decreases-loop-decided l = height l.finished.tree l.above
