-- Trees as contracts see them.
use Rattle.std.specs.Prelude.{ℕ, List}
use Rattle.cut_model.specs.Net.{Net}
use Rattle.cut_model.specs.Terminals.{root_of}
use Rattle.tree_state.specs.declared.entry.Entry.{Entry}
use Rattle.tree_state.specs.History.{tables}
use Rattle.tree_state.specs.Tables.{Table}
use Rattle.tree_state.specs.Trees.{IsCutTree}

-- A network, and the entries of the commits so far, the oldest first.
pub record TreeView : Type 0 where
  pub net : Net
  pub history : List Entry

-- A tree that grows: its network, the entries of the commits so far, the oldest first, and for each router the
-- neighbour that was last read for it, and how many of its cuts weren't taken since that neighbour had moved.
pub record GrowingView : Type 0 where
  pub net : Net
  pub history : List Entry
  pub last_read : List ℕ
  pub retakes : List ℕ

-- The tree that has grown so far.
abbrev pub tree_in : GrowingView → TreeView
tree_in grow = record { net = grow.net; history = grow.history }

-- What is above each router in the tree of its history.
abbrev pub up_of : TreeView → Table
up_of tree = (tables (root_of tree.net) tree.history).up

-- The width of the edge above each router in that tree.
abbrev pub width_of : TreeView → Table
width_of tree = (tables (root_of tree.net) tree.history).width

-- That tree is a cut tree of its network.
abbrev pub HoldsCutTree : TreeView → Type 0
HoldsCutTree tree = IsCutTree tree.net (root_of tree.net) (up_of tree) (width_of tree)

-- A finished tree, and for each router how many of its cuts weren't taken since its neighbour had moved.
pub record FinishedView : Type 0 where
  pub tree : TreeView
  pub retakes : List ℕ
