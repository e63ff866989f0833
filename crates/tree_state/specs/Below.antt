-- Which routers are decided, and which of these are below a given one.
use Rattle.std.specs.Prelude.{◌≡◌, ℕ, ◌<◌, Bool, true, ◌&&◌, List, length}
use Rattle.cut_model.specs.Cuts.{set_of}
use Rattle.cut_model.specs.Terminals.{root_of}
use Rattle.tree_state.specs.Tables.{below}
use Rattle.tree_state.specs.Views.{TreeView, up_of}

-- Two lists with a truth value for each router: the decided routers, the root among them, and those inside.
pub record IsMarked (tree : TreeView) (decided inside : List Bool) : Type 0 where
  pub decided_size : length decided ≡ tree.net.routers
  pub inside_size : length inside ≡ tree.net.routers
  pub root : set_of decided (root_of tree.net) ≡ true

-- Router c is decided, and inside are just the decided routers that are below it.
pub record IsDecidedFor (tree : TreeView) (c : ℕ) (decided inside : List Bool) : Type 0 where
  pub child : set_of decided c ≡ true
  pub inside_is :
      (r : ℕ) → r < tree.net.routers →
      set_of inside r ≡ (set_of decided r && below tree.net.routers (up_of tree) c r)
