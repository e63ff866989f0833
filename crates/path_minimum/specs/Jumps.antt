-- Jumps up a tree: where a number of steps lead, and the least edge among them.
use Rattle.std.specs.Prelude.{◌≡◌, ◌≢◌, ℕ, zero, suc, ◌^◌, ◌<◌, ◌≤◌, List, [], length, slice_index_or}
use Rattle.cut_model.specs.Terminals.{IsTerminal, root_of}
use Rattle.tree_state.specs.Tables.{Table}
use Rattle.tree_state.specs.Views.{TreeView, up_of, width_of}
use Rattle.tree_state.specs.Paths.{IsLeastEdge}
use Rattle.path_minimum.specs.declared.rungs.Jump.{Jump}

-- The router that so many steps up from a router lead to.
unfoldable pub climb : Table → ℕ → ℕ → ℕ
climb up zero i = i
climb up (suc steps) i = climb up steps (up i)

-- A jump of so many steps from c: where they lead, and the least edge among them, by its lower end.
pub record IsJump (tree : TreeView) (steps c : ℕ) (jump : Jump) : Type 0 where
  pub router_is : jump.router ≡ climb (up_of tree) steps c
  pub router_within : jump.router < tree.net.routers
  pub child_within : jump.child < tree.net.routers
  pub least :
      IsTerminal tree.net c → c ≢ root_of tree.net →
      IsLeastEdge tree.net (up_of tree) (width_of tree) c jump.router jump.child

-- Both routers that a jump tells are routers of the tree.
pub record IsWithin (tree : TreeView) (jump : Jump) : Type 0 where
  pub router : jump.router < tree.net.routers
  pub child : jump.child < tree.net.routers

-- The jumps of one number of steps, one from each router.
pub record RungView : Type 0 where
  pub steps : ℕ
  pub jumps : List Jump

-- The jump of a list from a router; what is read past the end is of no meaning.
abbrev pub jump_at : List Jump → ℕ → Jump
jump_at jumps c = slice_index_or jumps c (record { router = 0; child = 0 })

-- A list has a jump of so many steps from each router of a tree.
pub record AreJumps (tree : TreeView) (steps : ℕ) (jumps : List Jump) : Type 0 where
  pub size : length jumps ≡ tree.net.routers
  pub jump_is : (c : ℕ) → c < tree.net.routers → IsJump tree steps c (jump_at jumps c)

-- A rung has those of its steps.
abbrev pub IsRungOf : TreeView → RungView → Type 0
IsRungOf tree rung = AreJumps tree rung.steps rung.jumps

-- The rung at a place.
abbrev pub rung_at : List RungView → ℕ → RungView
rung_at rungs level = slice_index_or rungs level (record { steps = 0; jumps = [] })

-- Each rung has twice the steps of the one before, and the first single ones.
pub record AreRungs (tree : TreeView) (rungs : List RungView) : Type 0 where
  pub rung_is : (level : ℕ) → level < length rungs → IsRungOf tree (rung_at rungs level)
  pub steps_are : (level : ℕ) → level < length rungs → (rung_at rungs level).steps ≡ 2 ^ level

-- They are as many as are needed for twice the steps of the last to be as many as the routers, and no more.
pub record AreRungsOf (tree : TreeView) (rungs : List RungView) : Type 0 where
  pub rungs_are : AreRungs tree rungs
  pub enough : tree.net.routers ≤ 2 ^ length rungs
  pub fewest : (levels : ℕ) → tree.net.routers ≤ 2 ^ levels → length rungs ≤ levels
