-- What a line does to the state of a session.
use Rattle.std.specs.Prelude.{◌≡◌, ◌⊎◌, ℕ, List, [], ◌∷◌, Bool, false, true, None, Some}
use Rattle.std.specs.declared.option.Option.{Option}
use Rattle.network_text.specs.Readings.{IsWant}
use Rattle.network_text.specs.Texts.{Progress, progress_of}
use Rattle.session.specs.Modes.{Gives, IsByeLine, IsQuiet, gives, next_text}
use Rattle.session.specs.Points.{Owed, Work}
use Rattle.certifier.specs.Blocks.{Carried}
use Rattle.session.specs.Reporting.{IsHeld, ReportLine}
use Rattle.session.specs.Shelved.{Shelved}
use Rattle.session.specs.declared.desk.Asked.{Asked}
use Rattle.session.specs.declared.intake.Intake.{Intake}
use Rattle.session.specs.declared.intake.Intake.TheVariants.{Between, Text, Lost}
use Rattle.text_forms.specs.Items.{Bye, Item}
use Rattle.tree_versions.specs.Records.{Grows}

-- these lines of a text were read, unless memory was wanted for one
abbrev pub HasRead : Progress → List (List ℕ) → Type 0
HasRead progress text = (progress ≡ progress_of text) ⊎ IsWant progress.draft

-- a reader is kept though its text has met its END
abbrev pub is_stale : Intake → Bool
is_stale Between = false
is_stale (Text reader) = reader.ended
is_stale Lost = false

-- a text is open
abbrev pub is_open : Intake → Bool
is_open Between = false
is_open (Text reader) = true
is_open Lost = true

-- how many lines a reader has read of the text that is open
abbrev pub lines_in : Intake → ℕ
lines_in Between = 0
lines_in (Text reader) = reader.progress.lines
lines_in Lost = 0

-- the text that is open: none between two items, and else its lines so far, which a reader has read or which are
-- passed over for want of memory
abbrev pub HasOpen : Intake → Option (List (List ℕ)) → Type 0
HasOpen Between None = Unit {0}
HasOpen Between (Some text) = ⊥
HasOpen (Text reader) None = ⊥
HasOpen (Text reader) (Some text) = HasRead reader.progress text
HasOpen Lost None = ⊥
HasOpen Lost (Some text) = Unit {0}

-- Each text that may have to be written for the work answers the items, from what was seen to what is seen now. The
-- record of a report in work is among the latter.
pub record Owing (alone : Bool) (old new : Shelved) (items : List Item) (work : Work Asked Carried) : Type 0 where
  pub grows : Grows old.seen new.seen
  pub gives : (text : List ℕ) → Owed ReportLine new.seen work text → Gives alone old items text new
  pub held : IsHeld new.seen work

-- a line that is no BYE was taken: the items that it makes whole are owed their answers
pub record IsTaken (alone : Bool) (old new : Shelved) (open_text : Option (List (List ℕ))) (intake : Intake)
    (line : List ℕ) (work : Work Asked Carried) : Type 0 where
  pub quiet : IsQuiet open_text line
  pub owing : Owing alone old new (gives open_text line) work
  pub left_open : HasOpen intake (next_text open_text line)

-- a BYE was taken between two items, and is owed its answer
pub record IsByeTaken (alone : Bool) (old new : Shelved) (open_text : Option (List (List ℕ))) (line : List ℕ)
    (work : Work Asked Carried) : Type 0 where
  pub between : open_text ≡ None
  pub bye : IsByeLine line
  pub owing : Owing alone old new (Bye ∷ []) work

-- what taking a line did, and whether it was a BYE
abbrev pub LineTaken : Bool → Bool → Shelved → Shelved → Option (List (List ℕ)) → Intake → List ℕ → Work Asked Carried
    → Type 0
LineTaken false alone old new open_text intake line work = IsTaken alone old new open_text intake line work
LineTaken true alone old new open_text intake line work = IsByeTaken alone old new open_text line work
