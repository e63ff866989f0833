-- What is kept of a tree that is told: all but the flows of its edges.
use Rattle.std.specs.Prelude.{◌≡◌, ℕ, suc, ◌+◌, ◌<◌, ◌==◌, List, [], ◌∷◌, length, map, nat_lt, not, Bool}
use Rattle.std.specs.Prelude.{Some, None, slice_index, if◌then◌else◌}
use Rattle.std.specs.declared.option.Option.{Option}
use Rattle.cut_model.specs.Net.{IsInLimits}
use Rattle.network_text.specs.Sheets.{SheetView}
use Rattle.tree_state.specs.Tables.{Table}
use Rattle.certifier.specs.Blocks.{router_but}
use Rattle.certifier.specs.Certificates.{Verdict, Refused, Accepted}
use Rattle.certifier.specs.Trees.{Edge, Told}
use Rattle.certifier.specs.declared.fault.Fault.{Fault}
use Rattle.certifier.specs.declared.tree.KeptEdge.{KeptEdge}

-- A sheet, a root, and the edges so far.
pub record KeptTree : Type 0 where
  pub sheet : SheetView
  pub root : ℕ
  pub edges : List KeptEdge

-- What is kept of an edge.
abbrev pub kept_edge : Edge → KeptEdge
kept_edge edge = record { line = edge.line; child = edge.child; up = edge.up; width = edge.width }

-- What is kept of all that was told.
abbrev pub kept_of : Told → KeptTree
kept_of told = record { sheet = told.sheet; root = told.root; edges = map kept_edge told.edges }

-- This is what is kept of what was told.
abbrev pub IsKept : Told → KeptTree → Type 0
IsKept told kept = kept ≡ kept_of told

-- The router whose edge is next.
abbrev pub next_in : KeptTree → ℕ
next_in kept = router_but kept.root (length kept.edges)

-- Each router but the root has its edge.
abbrev pub is_whole_tree : KeptTree → Bool
is_whole_tree kept = not (nat_lt (length kept.edges + 1) kept.sheet.net.routers)

-- What is above each router. The root, and a router whose edge hasn't come, hang from the root.
abbrev pub up_among : ℕ → List KeptEdge → Table
up_among root [] router = root
up_among root (edge ∷ edges) router = if edge.child == router then edge.up else up_among root edges router

-- These are routers but one, in number order, from the one of a place on.
abbrev pub AreNextFrom : ℕ → ℕ → List ℕ → Type 0
AreNextFrom root place [] = Unit {0}
AreNextFrom root place (child ∷ children) = (child ≡ router_but root place) × AreNextFrom root (suc place) children

-- The lower ends of edges.
abbrev pub children_of : List KeptEdge → List ℕ
children_of edges = map (λ edge. edge.child) edges

-- The edges are above the routers but the root, in number order, and a list tells what is above each router.
pub record HasShape (kept : KeptTree) (up : List ℕ) : Type 0 where
  pub limits : IsInLimits kept.sheet.net
  pub root_is : kept.root < kept.sheet.net.routers
  pub few : length kept.edges < kept.sheet.net.routers
  pub size : length up ≡ kept.sheet.net.routers
  pub ups : (r : ℕ) → r < kept.sheet.net.routers → slice_index up r ≡ up_among kept.root kept.edges r
  pub within : (r : ℕ) → r < kept.sheet.net.routers → slice_index up r < kept.sheet.net.routers
  pub children : AreNextFrom kept.root 0 (children_of kept.edges)

-- The verdict on what was told, by its first fault.
abbrev pub verdict_by_fault : Told → Option Fault → Verdict
verdict_by_fault told None = Accepted told
verdict_by_fault told (Some fault) = Refused record { number = fault.number; line = fault.line }
