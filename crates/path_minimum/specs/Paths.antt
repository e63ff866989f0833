-- The path of two terminals of a tree, in its order.
use Rattle.std.specs.Prelude.{◌≡◌, ℕ, ◌↔◌, true, List, ◌++◌, map, reverse, Contains}
use Rattle.std.specs.List.Sorted.{IsStrictlyIncreasing}
use Rattle.cut_model.specs.Net.{Net}
use Rattle.cut_model.specs.Terminals.{number_in}
use Rattle.tree_state.specs.Tables.{Table, below}
use Rattle.tree_state.specs.Paths.{IsOnPath}

-- How many of the n routers are below c.
abbrev pub size_below : ℕ → Table → ℕ → ℕ
size_below n up c = number_in (below n up c) n

-- A terminal c is on the path of a and b, and one of the two, the named end, is below it.
pub record IsOnPathAbove (net : Net) (up : Table) (a b end c : ℕ) : Type 0 where
  pub on_path : IsOnPath net up a b c
  pub holds : below net.routers up c end ≡ true

-- The path of a and b in its order, each edge by its lower end: first the terminals of the path that have a below
-- them, each with more routers below it than the one before, and then those that have b below them, each with fewer.
pub record IsOrderedPath (net : Net) (up : Table) (a b : ℕ) (children : List ℕ) : Type 0 where
  pub front : List ℕ
  pub behind : List ℕ
  pub joins : children ≡ front ++ behind
  pub front_is : (c : ℕ) → Contains front c ↔ IsOnPathAbove net up a b a c
  pub behind_is : (c : ℕ) → Contains behind c ↔ IsOnPathAbove net up a b b c
  pub front_grows : IsStrictlyIncreasing (map (size_below net.routers up) front)
  pub behind_falls : IsStrictlyIncreasing (map (size_below net.routers up) (reverse behind))
