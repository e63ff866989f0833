-- A law of paths.
use Rattle.std.specs.Prelude.{◌≡◌, ℕ, List}
use Rattle.cut_model.specs.Net.{Net}
use Rattle.tree_state.specs.Tables.{Table}
use Rattle.path_minimum.specs.Paths.{IsOrderedPath}

-- Two terminals have one ordered path.
abbrev pub OrderedPathIsOne : Type 0
OrderedPathIsOne =
    (net : Net) (up : Table) (a b : ℕ) (one other : List ℕ) → IsOrderedPath net up a b one →
    IsOrderedPath net up a b other → one ≡ other
