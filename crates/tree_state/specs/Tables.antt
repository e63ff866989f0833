-- The two tables of a tree that grows, and what one commit makes of them.
use Rattle.std.specs.Prelude.{ℕ, zero, suc, Bool, not, ◌&&◌, ◌==◌, List, [], ◌∷◌, slice_index, if◌then◌else◌}
use Rattle.std.specs.List.{list_any}
use Rattle.cut_model.specs.Cuts.{RouterSet}

-- A number for each router.
abbrev pub Table : Type 0
Table = ℕ → ℕ

-- The neighbour above each router, and the width of the edge that leads to it.
pub record Tables : Type 0 where
  pub up : Table
  pub width : Table

-- The tables that two lists hold.
abbrev pub tables_of : List ℕ → List ℕ → Tables
tables_of up width = record { up = slice_index up; width = slice_index width }

-- The tables before any commit: every router hangs from the root.
abbrev pub start : ℕ → Tables
start root = record { up = λ router. root; width = λ router. 0 }

-- A commit at t takes the place of t: t has a neighbour above it, and that one is in the side.
abbrev pub swaps : ℕ → Table → ℕ → RouterSet → Bool
swaps root up t X = not (t == root) && X (up t)

-- What is above each router after a commit of s at t with the side X.
unfoldable pub up_after : ℕ → Table → ℕ → ℕ → RouterSet → Table
up_after root up s t X i =
    if i == s then (if swaps root up t X then up t else t)
    else if (i == t) && swaps root up t X then s
    else if X i && (up i == t) then s
    else up i

-- The width of each router after that commit, with the value k.
unfoldable pub width_after : ℕ → Table → Table → ℕ → ℕ → ℕ → RouterSet → Table
width_after root up width s t k X i =
    if i == s then (if swaps root up t X then width t else k)
    else if (i == t) && swaps root up t X then k
    else width i

-- What is above each router once those of the side that hung from t hang from s.
abbrev pub moved_to : ℕ → Table → ℕ → RouterSet → Table
moved_to s up t X i = if X i && (up i == t) then s else up i

-- The way up of a router, of n routers: the router, the one above it, and so on.
abbrev pub way_up : Table → ℕ → ℕ → List ℕ
way_up up zero i = []
way_up up (suc n) i = i ∷ way_up up n (up i)

-- Whether one of the n routers of the way up of i is in the set.
unfoldable pub some_up : RouterSet → Table → ℕ → RouterSet
some_up P up n i = list_any P (way_up up n i)

-- The routers whose way up, of n routers, holds c.
abbrev pub below : ℕ → Table → ℕ → RouterSet
below n up c = some_up (λ j. j == c) up n
