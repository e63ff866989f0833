-- What a certificate tells of a tree, and whether that is right.
use Rattle.std.specs.Prelude.{ℕ, List, [], ◌∷◌, Bool, not, ◌&&◌, ◌==◌, ℤ, pos, if◌then◌else◌}
use Rattle.std.specs.Ordering.{int_eq}
use Rattle.std.specs.List.{list_all, list_any, range_with_len}
use Rattle.cut_model.specs.Cuts.{cut_value}
use Rattle.cut_model.specs.Flow.{out}
use Rattle.cut_model.specs.Net.{Net}
use Rattle.network_text.specs.Sheets.{SheetView}
use Rattle.tree_state.specs.Tables.{Table, below}

-- An edge: the number of its line, its lower end, the router above that, its width, and what its flow carries on the
-- links, as far as that has come.
pub record Edge : Type 0 where
  pub line : ℕ
  pub child : ℕ
  pub up : ℕ
  pub width : ℕ
  pub flow : List ℤ

-- A network with its names, a root, and edges above its other routers, as far as they have come.
pub record Told : Type 0 where
  pub sheet : SheetView
  pub root : ℕ
  pub edges : List Edge

-- What is above each router. The root, and a router whose edge hasn't come, hang from the root.
abbrev pub up_by : ℕ → List Edge → Table
up_by root [] router = root
up_by root (edge ∷ edges) router = if edge.child == router then edge.up else up_by root edges router

-- How wide the edge above each router is.
abbrev pub width_by : List Edge → Table
width_by [] router = 0
width_by (edge ∷ edges) router = if edge.child == router then edge.width else width_by edges router

abbrev pub up_in : Told → Table
up_in told = up_by told.root told.edges

abbrev pub width_in : Told → Table
width_in told = width_by told.edges

-- Something stays in a router that is no end of the edge.
abbrev pub keeps_some : Net → Edge → ℕ → Bool
keeps_some net edge router =
    not (router == edge.child) && not (router == edge.up) && not (int_eq (out router net.links edge.flow) (pos 0))

-- At some router that is no end of the edge, what arrives and what leaves differ.
abbrev pub leaks : Net → Edge → Bool
leaks net edge = list_any (keeps_some net edge) (range_with_len 0 net.routers)

-- The flow carries as much out of the lower end as the edge is wide.
abbrev pub sends_width : Net → Edge → Bool
sends_width net edge = int_eq (out edge.child net.links edge.flow) (pos edge.width)

-- The way up of each router comes to the root.
abbrev pub all_end_at_root : Told → Bool
all_end_at_root told =
    list_all (below told.sheet.net.routers (up_in told) told.root) (range_with_len 0 told.sheet.net.routers)

-- What is below the lower end of an edge costs as much as the edge is wide.
abbrev pub costs_width : Told → Edge → Bool
costs_width told edge =
    cut_value told.sheet.net (below told.sheet.net.routers (up_in told) edge.child) == edge.width
