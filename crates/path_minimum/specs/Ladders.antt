-- What is made once for a tree.
use Rattle.std.specs.Prelude.{◌≡◌, ◌≢◌, ℕ, ◌<◌, true, Bool, List, replicate, Some, None}
use Rattle.std.specs.declared.option.Option.{Option}
use Rattle.cut_model.specs.Terminals.{terminal_count, root_of}
use Rattle.tree_state.specs.Views.{TreeView, width_of}
use Rattle.tree_state.specs.Paths.{IsWeakest}
use Rattle.tree_state.specs.Shown.{ShowsSet}
use Rattle.path_minimum.specs.Depths.{AreDepthsOf}
use Rattle.path_minimum.specs.Jumps.{RungView, AreRungsOf}
use Rattle.path_minimum.specs.Stretches.{WalkView, IsWalkOf, below_in}
use Rattle.path_minimum.specs.declared.weakest_edge.WeakestCut.{WeakestCut}

-- A ladder: depths, rungs of jumps, a walk, the side of all routers, and the weakest edge with its side.
pub record LadderView : Type 0 where
  pub depths : List ℕ
  pub rungs : List RungView
  pub walk : WalkView
  pub everyone : List Bool
  pub weakest : Option WeakestCut

-- The weakest edge of a tree of several terminals, its width, and the routers below it.
pub record IsWeakestCut (tree : TreeView) (cut : WeakestCut) : Type 0 where
  pub weakest : IsWeakest tree.net (root_of tree.net) (width_of tree) cut.edge.child
  pub width : cut.edge.width ≡ width_of tree cut.edge.child
  pub within : cut.edge.child < tree.net.routers
  pub side_is : ShowsSet tree.net.routers (below_in tree cut.edge.child) cut.side
  pub several : terminal_count tree.net ≢ 1

-- It was found, or there is one terminal alone.
pub record IsWeakestCutOf (tree : TreeView) (found : Option WeakestCut) : Type 0 where
  pub none : found ≡ None → terminal_count tree.net ≡ 1
  pub some : (cut : WeakestCut) → found ≡ Some cut → IsWeakestCut tree cut

-- A ladder was made for a tree: each part is that of this tree.
pub record IsLadderOf (tree : TreeView) (ladder : LadderView) : Type 0 where
  pub depths_are : AreDepthsOf tree ladder.depths
  pub rungs_are : AreRungsOf tree ladder.rungs
  pub walk_is : IsWalkOf tree ladder.walk
  pub everyone_is : ladder.everyone ≡ replicate tree.net.routers true
  pub weakest_is : IsWeakestCutOf tree ladder.weakest
