use Rattle.std.proofs.Common.{◌≡◌, ◌≢◌, ℕ, ◌<◌, ◌||◌, false, length}
use Rattle.cut_model.specs.Cuts.{set_of}
use Rattle.cut_model.specs.Terminals.{IsTerminal, root_of}
use Rattle.tree_state.specs.Views.{up_of}
use Rattle.tree_state.specs.Tables.{below}
use Rattle.path_minimum.specs.Depths.{depth_of}
use Rattle.path_minimum.proofs.ordered_path.mark_way.Given as goal

-- what has the router below it is marked, or has this one below it
abbrev pub invariant-loop-at : goal.invariant-loop-at
invariant-loop-at l = record {
  at_is : IsTerminal l.finished.tree.net l.at;
  size : length l.marks ≡ l.finished.tree.net.routers;
  root : set_of l.marks (root_of l.finished.tree.net) ≡ false;
  marked :
      (c : ℕ) → c < l.finished.tree.net.routers → c ≢ root_of l.finished.tree.net
      → below l.finished.tree.net.routers (up_of l.finished.tree) c l.router
      ≡ (set_of l.marks c || below l.finished.tree.net.routers (up_of l.finished.tree) c l.at);
}

abbrev pub decreases-loop-at : goal.decreases-loop-at
decreases-loop-at l = depth_of l.finished.tree l.at
