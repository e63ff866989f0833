-- What the tables of a history are: half-built trees, and cut trees.
use Rattle.std.specs.Prelude.{◌≡◌, ◌≢◌, ◌⊎◌, ℕ, ◌-◌, ◌<◌, true, slice_index}
use Rattle.cut_model.specs.Net.{Net}
use Rattle.cut_model.specs.Cuts.{RouterSet, IsLeastCut}
use Rattle.cut_model.specs.Terminals.{IsTerminal, root_of}
use Rattle.tree_state.specs.Tables.{Table, way_up, below}

-- What is below a router is a least cut of it from the router above it, and costs its width.
abbrev pub CutsBelow : Net → Table → Table → ℕ → Type 0
CutsBelow net up width c = IsLeastCut net c (up c) (below net.routers up c) (width c)

-- A tree that is half built: it cuts below each entered router, every way up ends at the root, and all
-- others hang from the root or from an entered router.
pub record IsHalfBuiltTree (net : Net) (up width : Table) (is_entered : RouterSet) : Type 0 where
  pub cuts : (c : ℕ) → is_entered c ≡ true → CutsBelow net up width c
  pub ends : (i : ℕ) → i < net.routers → slice_index (way_up up net.routers i) (net.routers - 1) ≡ root_of net
  pub inner : (i : ℕ) → (up i ≡ root_of net) ⊎ (is_entered (up i) ≡ true)

-- A cut tree: each router hangs from a terminal, and the tree cuts below each terminal but its root.
-- (Gomory and Hu, 1961.)
pub record IsCutTree (net : Net) (root : ℕ) (up width : Table) : Type 0 where
  pub root_is : IsTerminal net root
  pub up_is : (i : ℕ) → i < net.routers → IsTerminal net (up i)
  pub cuts : (c : ℕ) → IsTerminal net c → c ≢ root → CutsBelow net up width c
