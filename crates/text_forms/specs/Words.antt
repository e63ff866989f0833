-- The words of a line.
use Rattle.std.specs.Prelude.{ℕ, List, [], ◌∷◌, Bool, true, false, not, ◌==◌, ◌&&◌, ◌||◌, if◌then◌else◌}
use Rattle.std.specs.Prelude.{codes}
use Rattle.std.specs.Str.{bytes_eq}
use Rattle.text_forms.specs.Lines.{is_long}

-- a space or a tab
abbrev pub is_blank : ℕ → Bool
is_blank b = (b == 32) || (b == 9)

-- a line without the carriage return that may be its last byte
abbrev pub without_return : List ℕ → List ℕ
without_return [] = []
without_return (b ∷ []) = if b == 13 then [] else b ∷ []
without_return (b ∷ c ∷ bytes) = b ∷ without_return (c ∷ bytes)

-- the bytes begin with a byte of a word
abbrev pub goes_on : List ℕ → Bool
goes_on [] = false
goes_on (b ∷ bytes) = not (is_blank b)

-- a byte in front of the first word
abbrev pub join_word : ℕ → List (List ℕ) → List (List ℕ)
join_word b [] = (b ∷ []) ∷ []
join_word b (word ∷ words) = (b ∷ word) ∷ words

-- the longest pieces without blanks, in order
abbrev pub words_of : List ℕ → List (List ℕ)
words_of [] = []
words_of (b ∷ bytes) =
    if is_blank b then words_of bytes
    else if goes_on bytes then join_word b (words_of bytes)
    else (b ∷ []) ∷ words_of bytes

-- the words of a line, whose last carriage return isn't part of one
abbrev pub line_words : List ℕ → List (List ℕ)
line_words line = words_of (without_return line)

-- there is just this one word
abbrev pub is_lone : List ℕ → List (List ℕ) → Bool
is_lone word [] = false
is_lone word (first ∷ []) = bytes_eq first word
is_lone word (first ∷ second ∷ words) = false

-- no word, or a first word that begins with a number sign
abbrev pub is_remark : List (List ℕ) → Bool
is_remark [] = true
is_remark ([] ∷ words) = false
is_remark ((b ∷ bytes) ∷ words) = b == 35

-- an empty line or a remark, which isn't too long
abbrev pub is_passed : List ℕ → Bool
is_passed line = not (is_long line) && is_remark (line_words line)

-- a line with just this word, which isn't too long
abbrev pub is_word_line : List ℕ → List ℕ → Bool
is_word_line word line = not (is_long line) && is_lone word (line_words line)

-- the line that begins a network text
abbrev pub is_load : List ℕ → Bool
is_load line = is_word_line (codes "LOAD") line

-- the line that ends a network text
abbrev pub is_end : List ℕ → Bool
is_end line = is_word_line (codes "END") line

-- the line that ends a session
abbrev pub is_bye : List ℕ → Bool
is_bye line = is_word_line (codes "BYE") line
