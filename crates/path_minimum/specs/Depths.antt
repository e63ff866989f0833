-- How deep the routers of a tree lie.
use Rattle.std.specs.Prelude.{◌≡◌, ℕ, ◌<◌, not, ◌&&◌, ◌==◌, List, length, slice_index}
use Rattle.cut_model.specs.Terminals.{number_in, root_of}
use Rattle.tree_state.specs.Tables.{Table, below}
use Rattle.tree_state.specs.Views.{TreeView, up_of}

-- How many edges lie between each router of a tree of n routers and the root: those above the routers, other than the
-- root, that have it below them.
unfoldable pub depth_in : ℕ → ℕ → Table → Table
depth_in n root up i = number_in (λ c. below n up c i && not (c == root)) n

-- How many edges lie between each router and the root.
abbrev pub depth_of : TreeView → Table
depth_of tree = depth_in tree.net.routers (root_of tree.net) (up_of tree)

-- A list has the depth of each router of a tree.
pub record AreDepthsOf (tree : TreeView) (depths : List ℕ) : Type 0 where
  pub size : length depths ≡ tree.net.routers
  pub depth_is : (c : ℕ) → c < tree.net.routers → slice_index depths c ≡ depth_of tree c
