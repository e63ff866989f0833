-- A reader of lines as contracts see it, and the bytes that it holds.
use Rattle.std.specs.Prelude.{◌≡◌, ℕ, List, [], ◌++◌, Bool, true, false}
use Rattle.text_forms.specs.Lines.{NoFeed, front_of}

-- the front that is kept of a line, whether that line was taken or isn't ended yet, the bytes that are buffered
-- behind it, and how many bytes were ever read
pub record Buffered : Type 0 where
  pub line : List ℕ
  pub whole : Bool
  pub bytes : List ℕ
  pub taken : ℕ

-- a reader that has read nothing
abbrev pub fresh : Buffered
fresh = record { line = []; whole = false; bytes = []; taken = 0 }

-- these bytes were read and belong to no line that was taken: the line that isn't ended, of which the front is kept,
-- and what is buffered behind it
pub record Holds (reader : Buffered) (bytes : List ℕ) : Type 0 where
  pub open_line : List ℕ
  pub clean : NoFeed open_line
  pub begun : reader.whole ≡ true → open_line ≡ []
  pub front : reader.whole ≡ false → reader.line ≡ front_of open_line
  pub is : bytes ≡ open_line ++ reader.bytes
