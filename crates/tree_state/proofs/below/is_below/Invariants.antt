use Rattle.std.proofs.Common.{◌≡◌, ◌<◌, ℕ}
use Rattle.tree_state.specs.Tables.{below}
use Rattle.tree_state.specs.Views.{up_of}
use Rattle.tree_state.specs.Below.{IsDecidedFor}
use Rattle.tree_state.proofs.Decided.{height}
use Rattle.tree_state.proofs.below.is_below.Given as goal

-- the router above and the one below are alike
abbrev pub invariant-loop-above : goal.invariant-loop-above
invariant-loop-above l = record {
  within : l.above < l.finished.tree.net.routers;
  alike :
      (c : ℕ) → IsDecidedFor l.finished.tree c l.decided l.inside →
      below l.finished.tree.net.routers (up_of l.finished.tree) c l.above
      ≡ below l.finished.tree.net.routers (up_of l.finished.tree) c l.router;
}

abbrev pub decreases-loop-above : goal.decreases-loop-above
decreases-loop-above l = height l.finished.tree l.above
