-- Sheets: a network whose routers have names.
use Rattle.std.specs.Prelude.{◌≡◌, ◌≢◌, ℕ, List, length, All, AllPairs, IsTrue, position}
use Rattle.std.specs.Str.{bytes_eq}
use Rattle.std.specs.declared.option.Option.{Option}
use Rattle.text_forms.specs.Names.{is_name}
use Rattle.cut_model.specs.Net.{Net, IsInLimits}

-- A sheet is the names of routers by their numbers, and the network of these routers.
pub record SheetView : Type 0 where
  pub names : List (List ℕ)
  pub net : Net

-- The number of the router with this name, and none where no router has it.
abbrev pub number_of : List (List ℕ) → List ℕ → Option ℕ
number_of names name = position (bytes_eq name) names

-- The routers of a network within its limits have a name each, and no two the same.
pub record IsSheet (names : List (List ℕ)) (net : Net) : Type 0 where
  pub distinct : AllPairs (λ name other. name ≢ other) names
  pub named : All (λ name. IsTrue (is_name name)) names
  pub numbered : length names ≡ net.routers
  pub limits : IsInLimits net
