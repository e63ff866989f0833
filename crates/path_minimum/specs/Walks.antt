-- What walks up a tree leave.
use Rattle.std.specs.Prelude.{◌≡◌, ◌≢◌, ◌⊎◌, ℕ, ◌-◌, ◌<◌, ◌≤◌, ◌&&◌, true, Bool, List, length, slice_index, Some, None}
use Rattle.std.specs.declared.option.Option.{Option}
use Rattle.cut_model.specs.Net.{Net}
use Rattle.cut_model.specs.Cuts.{set_of}
use Rattle.cut_model.specs.Terminals.{IsTerminal, root_of}
use Rattle.tree_state.specs.Tables.{Table, way_up, below}
use Rattle.tree_state.specs.Views.{TreeView, up_of, width_of}
use Rattle.path_minimum.specs.declared.least_edge.PathLeast.{PathLeast}
use Rattle.path_minimum.specs.Depths.{depth_of}

-- The root is known, and of each known router the list has the depth.
pub record AreKnown (tree : TreeView) (known : List Bool) (depths : List ℕ) : Type 0 where
  pub marks : length known ≡ tree.net.routers
  pub places : length depths ≡ tree.net.routers
  pub root : set_of known (root_of tree.net) ≡ true
  pub depth_is : (c : ℕ) → c < tree.net.routers → set_of known c ≡ true → slice_index depths c ≡ depth_of tree c

-- The edge above a router.
abbrev pub edge_of : TreeView → ℕ → PathLeast
edge_of tree c = record { child = c; width = width_of tree c }

-- The one edge is no wider than the other, and where both are as wide, its lower end has no larger number.
pub record ComesFirst (one other : PathLeast) : Type 0 where
  pub least : one.width ≤ other.width
  pub first : other.width ≡ one.width → one.child ≤ other.child

-- Two ways up meet at m: just the routers that have both of their beginnings below them have m below them.
pub record IsMeeting (net : Net) (up : Table) (a b m : ℕ) : Type 0 where
  pub terminal : IsTerminal net m
  pub shared : (c : ℕ) → below net.routers up c m ≡ (below net.routers up c a && below net.routers up c b)

-- The routers of the way from one router up to another, without the last.
unfoldable pub way_between : TreeView → ℕ → ℕ → List ℕ
way_between tree from to = way_up (up_of tree) (depth_of tree from - depth_of tree to) from

-- An edge is the weakest of those above the terminals below `end`, but for the root.
pub record IsWeakestOf (tree : TreeView) (end : ℕ) (edge : PathLeast) : Type 0 where
  pub edge_is : edge ≡ edge_of tree edge.child
  pub terminal : IsTerminal tree.net edge.child
  pub not_root : edge.child ≢ root_of tree.net
  pub least :
      (c : ℕ) → c < end → IsTerminal tree.net c → c ≢ root_of tree.net → ComesFirst edge (edge_of tree c)

-- The weakest of the edges above the terminals below `end`, but for the root; none where there is none.
abbrev pub IsWeakestBelow : TreeView → ℕ → Option PathLeast → Type 0
IsWeakestBelow tree end None = (c : ℕ) → c < end → IsTerminal tree.net c → c ≡ root_of tree.net
IsWeakestBelow tree end (Some edge) = IsWeakestOf tree end edge

-- Of two edges the one that comes first.
pub record IsLesser (result one other : PathLeast) : Type 0 where
  pub either : (result ≡ one) ⊎ (result ≡ other)
  pub before_one : ComesFirst result one
  pub before_other : ComesFirst result other
