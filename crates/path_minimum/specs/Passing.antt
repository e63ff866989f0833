-- What is left of a path while two walks up come to meet, and the least edge of what was passed.
use Rattle.std.specs.Prelude.{◌≡◌, ◌≢◌, ◌⊎◌, ℕ}
use Rattle.cut_model.specs.Terminals.{IsTerminal}
use Rattle.tree_state.specs.Views.{TreeView, up_of}
use Rattle.tree_state.specs.Paths.{IsOnPath}
use Rattle.path_minimum.specs.Depths.{depth_of}
use Rattle.path_minimum.specs.Jumps.{climb}
use Rattle.path_minimum.specs.declared.least_edge.Ends.{Ends}
use Rattle.path_minimum.specs.Walks.{edge_of, ComesFirst}

-- What is left of the path of a and b is the path of two ends, and the least edge comes first of what was passed.
pub record HasPassed (tree : TreeView) (a b : ℕ) (ends : Ends) : Type 0 where
  pub x_is : IsTerminal tree.net ends.x
  pub y_is : IsTerminal tree.net ends.y
  pub edge : ends.least ≡ edge_of tree ends.least.child
  pub on_path : IsOnPath tree.net (up_of tree) a b ends.least.child
  pub ahead :
      (e : ℕ) → IsOnPath tree.net (up_of tree) ends.x ends.y e → IsOnPath tree.net (up_of tree) a b e
  pub passed :
      (e : ℕ) → IsOnPath tree.net (up_of tree) a b e
      → IsOnPath tree.net (up_of tree) ends.x ends.y e ⊎ ComesFirst ends.least (edge_of tree e)

-- The ends are two terminals of one depth, from which so many steps up lead to one router.
pub record AreApart (tree : TreeView) (steps : ℕ) (ends : Ends) : Type 0 where
  pub x_is : IsTerminal tree.net ends.x
  pub y_is : IsTerminal tree.net ends.y
  pub level : depth_of tree ends.x ≡ depth_of tree ends.y
  pub apart : ends.x ≢ ends.y
  pub meet : climb (up_of tree) steps ends.x ≡ climb (up_of tree) steps ends.y
