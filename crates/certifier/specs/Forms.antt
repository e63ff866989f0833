-- The forms of the lines of a certificate.
use Rattle.std.specs.Prelude.{ℕ, List, [], ◌∷◌, Bool, true, false, not, ◌&&◌, ◌==◌, ℤ, pos, neg_ℤ, codes, Some, None}
use Rattle.std.specs.Prelude.{if◌then◌else◌}
use Rattle.std.specs.Option.{option_map}
use Rattle.std.specs.Str.{bytes_eq}
use Rattle.std.specs.declared.option.Option.{Option}
use Rattle.text_forms.specs.Lines.{is_long}
use Rattle.text_forms.specs.Numbers.{number_in}
use Rattle.text_forms.specs.Words.{is_passed, line_words}

-- The value of a signed number: of a number, or of one behind a minus sign.
abbrev pub signed_in : List ℕ → Option ℤ
signed_in [] = None
signed_in (b ∷ bytes) =
    if b == 45 then option_map (λ n. neg_ℤ (pos n)) (number_in bytes) else option_map pos (number_in (b ∷ bytes))

-- The words of a line that isn't too long; of one that is, none.
abbrev pub short_words : List ℕ → List (List ℕ)
short_words line = if is_long line then [] else line_words line

-- The line is the title, of three words.
abbrev pub are_title : List (List ℕ) → Bool
are_title (first ∷ second ∷ third ∷ []) =
    bytes_eq first (codes "cut") && bytes_eq second (codes "tree") && bytes_eq third (codes "1")
are_title _ = false

abbrev pub is_title : List ℕ → Bool
is_title line = are_title (short_words line)

-- The word behind `root`.
abbrev pub root_word : List (List ℕ) → Option (List ℕ)
root_word (word ∷ name ∷ []) = if bytes_eq word (codes "root") then Some name else None
root_word _ = None

-- The words of an edge: two names and a number.
pub record EdgeWords : Type 0 where
  pub child : List ℕ
  pub up : List ℕ
  pub width : List ℕ

-- The words behind `edge`.
abbrev pub edge_words : List (List ℕ) → Option EdgeWords
edge_words (word ∷ child ∷ up ∷ width ∷ []) =
    if bytes_eq word (codes "edge") then Some record { child = child; up = up; width = width } else None
edge_words _ = None

-- The word behind `on`.
abbrev pub on_word : List (List ℕ) → Option (List ℕ)
on_word (word ∷ value ∷ []) = if bytes_eq word (codes "on") then Some value else None
on_word _ = None

-- The line ends a certificate.
abbrev pub are_done : List (List ℕ) → Bool
are_done (word ∷ []) = bytes_eq word (codes "DONE")
are_done _ = false

abbrev pub is_done : List ℕ → Bool
is_done line = are_done (short_words line)

-- The line begins a reply: its first byte is `@`.
abbrev pub is_reply : List ℕ → Bool
is_reply [] = false
is_reply (b ∷ bytes) = b == 64

-- The line of this number is passed over: an empty one, a remark, and where it is the first one the beginning of a
-- reply. One that is too long isn't.
abbrev pub is_skipped : ℕ → List ℕ → Bool
is_skipped number line = if is_passed line then true else (number == 1) && is_reply line && not (is_long line)
