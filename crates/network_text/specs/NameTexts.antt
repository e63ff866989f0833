-- The names of routers as one text, which replies take stretches of.
use Rattle.std.specs.Prelude.{◌≡◌, ℕ, ◌+◌, ◌≤◌, List, ◌∷◌, map, length, take, slice_index, slice_range}
use Rattle.std.specs.List.{concat}
use Rattle.cut_model.specs.Net.{Net}
use Rattle.network_text.specs.Sheets.{IsSheet}

-- The names one behind the other, each with a blank before it.
unfoldable pub blank_names : List (List ℕ) → List ℕ
blank_names names = concat (map (λ name. 32 ∷ name) names)

-- Those of the routers from one number up to another one, which is left out.
abbrev pub blank_names_between : List (List ℕ) → ℕ → ℕ → List ℕ
blank_names_between names from to = blank_names (slice_range names from to)

-- The text of all names, and where each begins in it; behind these places stands where the text ends.
pub record IsTextOf (names : List (List ℕ)) (bytes begins : List ℕ) : Type 0 where
  pub bytes_are : bytes ≡ blank_names names
  pub count : length begins ≡ length names + 1
  pub begins_are : (k : ℕ) → k ≤ length names → slice_index begins k ≡ length (blank_names (take k names))

-- What a sheet keeps: the names of a network's routers, also as a text.
pub record IsNamed (names : List (List ℕ)) (net : Net) (bytes begins : List ℕ) : Type 0 where
  pub sheet : IsSheet names net
  pub text : IsTextOf names bytes begins
