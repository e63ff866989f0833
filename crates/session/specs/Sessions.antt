-- How a session ends.
use Rattle.std.specs.Prelude.{◌≡◌, ℕ, ◌+◌, ◌<◌, ◌≤◌, ◌⊎◌, take, List, ◌∷◌, [], ◌++◌, length, Bool, IsTrue, false}
use Rattle.std.specs.Io.KnownBytes.{Appends, Consumes, IsAtEnd}
use Rattle.std.specs.declared.option.Option.{Option}
use Rattle.line_reader.specs.declared.reader.TheConstants.{MOST_BYTES}
use Rattle.session.specs.Answers.{Answers}
use Rattle.session.specs.Modes.{IsReached, IsServed}
use Rattle.session.specs.Shelved.{Shelved}
use Rattle.session.specs.declared.session.SessionEnd.{SessionEnd}
use Rattle.session.specs.declared.session.SessionEnd.TheVariants.{Done, ReadFault, WriteFault, TooLong}
use Rattle.text_forms.specs.Items.{Item, Bye, NoBye, items_of}
use Rattle.tree_versions.specs.Records.{Grows}
use Rattle.wires.specs.Lazy.{Wire}

-- What the shelf and the peer of a session show at a moment.
pub record Moment : Type 0 where
  pub shelf : Shelved
  pub wire : Wire

-- that moment
abbrev pub moment : Shelved → Wire → Moment
moment shelf wire = record { shelf = shelf; wire = wire }

-- that of a peer that has this left, and to which this was written
abbrev pub moment_at : Shelved → Option (List ℕ) → Bool → Option (List ℕ) → Moment
moment_at shelf left ended written = moment shelf (record { left = left; ended = ended; written = written })

-- The text that was written answers the whole items of the bytes that were taken, as `Serving` says, and P holds of
-- these bytes and items. No more than MOST_BYTES were taken.
pub record Ends (P : List ℕ → List Item → Type 0) (start now : Wire) (Serving : List Item → List ℕ → Type 0) : Type 0
  where
    pub bytes : List ℕ
    pub text : List ℕ
    pub served : Serving (items_of now.ended bytes) text
    pub gone : Consumes start.left now.left bytes
    pub wrote : Appends start.written now.written text
    pub why : P bytes (items_of now.ended bytes)
    pub most : length bytes ≤ MOST_BYTES

-- a read met the end, and no told byte is left
abbrev pub IsOver : Bool → Option (List ℕ) → Type 0
IsOver ended left = IsTrue ended × IsAtEnd left

-- the last item is a BYE, or the end of the input was met and no byte that the source tells of is left
abbrev pub IsComplete : Wire → List ℕ → List Item → Type 0
IsComplete now bytes items = ((front : List Item) × (items ≡ front ++ Bye ∷ [])) ⊎ IsOver now.ended now.left

-- MOST_BYTES were taken, the end wasn't met, and no BYE is among the items
abbrev pub IsTooLong : Wire → List ℕ → List Item → Type 0
IsTooLong now bytes items = (length bytes ≡ MOST_BYTES) × (now.ended ≡ false) × NoBye items

-- fewer bytes were taken, the end wasn't met, and no BYE is among the items
abbrev pub IsCutShort : Wire → List ℕ → List Item → Type 0
IsCutShort now bytes items = (length bytes < MOST_BYTES) × (now.ended ≡ false) × NoBye items

-- The text that was written answers a front of the whole items of the bytes that were taken, but for a part of the
-- reply to the last of them. No more than MOST_BYTES were taken.
pub record Breaks (alone : Bool) (start now : Moment) : Type 0 where
  pub bytes : List ℕ
  pub earlier : List Item
  pub last : List Item
  pub behind : List Item
  pub text : List ℕ
  pub reply : List ℕ
  pub seen : ℕ
  pub final : ℕ
  pub loads : ℕ
  pub loaded : ℕ
  pub count : ℕ
  pub whole : items_of now.wire.ended bytes ≡ (earlier ++ last) ++ behind
  pub one : length last ≤ 1
  pub grows : Grows start.shelf.seen now.shelf.seen
  pub before : Answers alone now.shelf.seen (length start.shelf.seen) earlier text seen loads
  pub answers : Answers alone now.shelf.seen seen last reply final loaded
  pub reached : IsReached alone now.shelf.seen final
  pub counted : now.shelf.published ≡ start.shelf.published + (loads + loaded)
  pub gone : Consumes start.wire.left now.wire.left bytes
  pub wrote : Appends start.wire.written now.wire.written (text ++ take count reply)
  pub most : length bytes ≤ MOST_BYTES

-- a session that answered all whole items, for the reason P
abbrev pub EndsServed : (List ℕ → List Item → Type 0) → Bool → Moment → Moment → Type 0
EndsServed P alone start now = Ends P start.wire now.wire (IsServed alone start.shelf now.shelf)

-- how a session ends, from one moment to another
abbrev pub EndsAs : SessionEnd → Bool → Moment → Moment → Type 0
EndsAs Done alone start now = EndsServed (IsComplete now.wire) alone start now
EndsAs ReadFault alone start now = EndsServed (IsCutShort now.wire) alone start now
EndsAs TooLong alone start now = EndsServed (IsTooLong now.wire) alone start now
EndsAs WriteFault alone start now = Breaks alone start now
