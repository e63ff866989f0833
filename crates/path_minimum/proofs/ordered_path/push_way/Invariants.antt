use Rattle.std.proofs.Common.{◌≡◌, ◌+◌, ◌≤◌, ◌++◌, true, vec_len, vec_capacity}
use Rattle.cut_model.specs.Terminals.{IsTerminal}
use Rattle.cut_model.specs.declared.network.TheConstants.{MOST_ROUTERS}
use Rattle.tree_state.specs.Views.{up_of}
use Rattle.tree_state.specs.Tables.{below}
use Rattle.path_minimum.specs.Depths.{depth_of}
use Rattle.path_minimum.specs.Walks.{way_between}
use Rattle.path_minimum.proofs.ordered_path.push_way.Given as goal

-- what was added and the way from here are the whole way
abbrev pub invariant-loop-at : goal.invariant-loop-at
invariant-loop-at l = record {
  at_is : IsTerminal l.finished.tree.net l.at;
  above : below l.finished.tree.net.routers (up_of l.finished.tree) l.to l.at ≡ true;
  added :
      l.children.items ++ way_between l.finished.tree l.at l.to
      ≡ l.fn.children.items ++ way_between l.finished.tree l.from l.to;
  room : vec_len l.children + depth_of l.finished.tree l.at ≤ MOST_ROUTERS + depth_of l.finished.tree l.to;
  capacity : vec_capacity l.children ≡ vec_capacity l.fn.children;
}

abbrev pub decreases-loop-at : goal.decreases-loop-at
decreases-loop-at l = depth_of l.finished.tree l.at
