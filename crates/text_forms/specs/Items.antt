-- The items of a session: what each reply answers.
use Rattle.std.specs.Prelude.{ℕ, List, [], ◌∷◌, ◌++◌, Bool, true, false, if◌then◌else◌, Some, None}
use Rattle.std.specs.declared.option.Option.{Option}
use Rattle.text_forms.specs.Lines.{fronts_of}
use Rattle.text_forms.specs.Words.{is_passed, is_load, is_end, is_bye}

-- a request line, a network text with whether its END came, or the end of the session
pub data Item : Type 0 where
  Ask : List ℕ → Item
  Load : List (List ℕ) → Bool → Item
  Bye : Item

-- The whole items of lines. `None` stands between two items, and `Some lines` in a text of which these lines have come.
-- Empty lines and remarks between items are passed over. A text goes on to its END;
-- one that the end of the input cuts off is whole too.
abbrev pub items_from : Bool → Option (List (List ℕ)) → List (List ℕ) → List Item
items_from ended None [] = []
items_from ended (Some text) [] = if ended then Load text false ∷ [] else []
items_from ended None (line ∷ lines) =
    if is_passed line then items_from ended None lines
    else if is_load line then items_from ended (Some []) lines
    else if is_bye line then Bye ∷ []
    else Ask line ∷ items_from ended None lines
items_from ended (Some text) (line ∷ lines) =
    if is_end line then Load text true ∷ items_from ended None lines
    else items_from ended (Some (text ++ line ∷ [])) lines

-- the same of bytes that follow
abbrev pub items_on : Bool → Option (List (List ℕ)) → List ℕ → List Item
items_on ended text bytes = items_from ended text (fronts_of ended bytes)

-- the whole items of the bytes that a session took
abbrev pub items_of : Bool → List ℕ → List Item
items_of ended bytes = items_on ended None bytes

-- no item ends the session
abbrev pub NoBye : List Item → Type 0
NoBye [] = Unit {0}
NoBye (Ask line ∷ items) = NoBye items
NoBye (Load text whole ∷ items) = NoBye items
NoBye (Bye ∷ items) = ⊥
