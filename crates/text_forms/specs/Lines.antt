-- The lines of a stream of bytes.
use Rattle.std.specs.Prelude.{◌≢◌, ℕ, ◌+◌, List, [], ◌∷◌, Bool, All, ◌==◌, if◌then◌else◌, length, nat_lt, map}
use Rattle.std.specs.Prelude.{take}
use Rattle.text_forms.specs.declared.lines.TheConstants.{MOST_LINE_BYTES}

-- no line feed is among the bytes
abbrev pub NoFeed : List ℕ → Type 0
NoFeed bytes = All (λ b. b ≢ 10) bytes

-- a byte before lines: it joins the first of them; where there is none it is a line of its own if the input ended
abbrev pub join_byte : ℕ → List (List ℕ) → Bool → List (List ℕ)
join_byte b [] ended = if ended then (b ∷ []) ∷ [] else []
join_byte b (line ∷ lines) ended = (b ∷ line) ∷ lines

-- the lines without their line feeds; the bytes after the last line feed are a line only where the input ended
abbrev pub lines_of : Bool → List ℕ → List (List ℕ)
lines_of ended [] = []
lines_of ended (b ∷ bytes) = if b == 10 then [] ∷ lines_of ended bytes else join_byte b (lines_of ended bytes) ended

-- a line of more bytes than a line may have is too long
abbrev pub is_long : List ℕ → Bool
is_long line = nat_lt MOST_LINE_BYTES (length line)

-- what is looked at of a line: enough of it to see that it is too long
abbrev pub front_of : List ℕ → List ℕ
front_of line = take (MOST_LINE_BYTES + 1) line

-- the fronts of all lines
abbrev pub fronts_of : Bool → List ℕ → List (List ℕ)
fronts_of ended bytes = map front_of (lines_of ended bytes)
