-- What taking a line out of the bytes that a reader holds does.
use Rattle.std.specs.Prelude.{◌≡◌, ℕ, ◌<◌, List, [], ◌∷◌, ◌++◌, length, Bool, true, false}
use Rattle.text_forms.specs.Lines.{NoFeed, front_of}
use Rattle.line_reader.specs.Buffered.{Buffered, Holds}

-- what is buffered up to the first line feed was added to the front of the line, which is whole now
pub record EndsLine (old new : Buffered) : Type 0 where
  pub part : List ℕ
  pub clean : NoFeed part
  pub is : old.bytes ≡ part ++ 10 ∷ new.bytes
  pub front : new.line ≡ front_of (old.line ++ part)
  pub whole : new.whole ≡ true

-- all that is buffered, which has no line feed, was added to the front of the line, which isn't ended
pub record ExtendsLine (old new : Buffered) : Type 0 where
  pub clean : NoFeed old.bytes
  pub spent : new.bytes ≡ []
  pub front : new.line ≡ front_of (old.line ++ old.bytes)
  pub unended : new.whole ≡ false

-- of these bytes the line up to the first line feed was taken, and those behind the line feed are held now
pub record TakesLine (bytes : List ℕ) (new : Buffered) : Type 0 where
  pub line : List ℕ
  pub behind : List ℕ
  pub clean : NoFeed line
  pub is : bytes ≡ line ++ 10 ∷ behind
  pub front : new.line ≡ front_of line
  pub holds : Holds new behind

-- these bytes, which have no line feed and are some, were taken as the last line, and none is held now
pub record TakesLast (bytes : List ℕ) (new : Buffered) : Type 0 where
  pub some : 0 < length bytes
  pub clean : NoFeed bytes
  pub front : new.line ≡ front_of bytes
  pub holds : Holds new []

-- whether a whole line was taken of these bytes: where it wasn't, they have no line feed, and are held as before
abbrev pub NextTells : Bool → List ℕ → Buffered → Type 0
NextTells true bytes new = TakesLine bytes new
NextTells false bytes new = NoFeed bytes × Holds new bytes

-- whether these bytes were taken as the last line: where they weren't, there are none
abbrev pub LastTells : Bool → List ℕ → Buffered → Type 0
LastTells true bytes new = TakesLast bytes new
LastTells false bytes new = (bytes ≡ []) × Holds new []
