-- What the steps of a turn do.
use Rattle.std.specs.Prelude.{◌≡◌, ℕ, ◌+◌, ◌-◌, ◌*◌, ◌⊎◌, [], Bool, true, false, length, None, Some}
use Rattle.std.specs.declared.option.Option.{Option}
use Rattle.line_reader.specs.Buffered.{Buffered}
use Rattle.line_reader.specs.declared.reader.TheConstants.{MOST_BYTES}
use Rattle.session.specs.Points.{Point, Rest, Work}
use Rattle.certifier.specs.Blocks.{Carried}
use Rattle.session.specs.Sessions.{IsOver}
use Rattle.session.specs.Shelved.{Shelved}
use Rattle.session.specs.Turns.{Here, Kept, TurnGoes, Went}
use Rattle.session.specs.declared.desk.Asked.{Asked}
use Rattle.session.specs.declared.session.Turn.{Turn}
use Rattle.text_forms.specs.Lines.{NoFeed}
use Rattle.wires.specs.Lazy.{Wire}
use Rattle.wires.specs.declared.lazy.Got.{Got}
use Rattle.wires.specs.declared.lazy.Got.TheVariants.{Bytes, End, NotYet, Failed}

-- a session over a shelf and a wire
abbrev pub here_at : Shelved → Wire → Kept → Here
here_at shelf wire kept = record { now = record { shelf = shelf; wire = wire }; kept = kept }

-- The session went on to here.
abbrev pub Gone : Bool → Point Asked Carried → Here → Type 0
Gone alone from here = Went (λ point. Unit {0}) alone from here

-- what is kept, with another reply in work
abbrev pub with_work : Kept → Work Asked Carried → Kept
with_work kept work = record kept { work = work }

-- No whole line is held.
pub record IsPart (point : Point Asked Carried) : Type 0 where
  pub clean : NoFeed point.rest.bytes

-- Nor was the end met.
pub record IsUnmet (point : Point Asked Carried) : Type 0 where
  pub clean : NoFeed point.rest.bytes
  pub unmet : point.wire.ended ≡ false

-- The end was met.
pub record IsMet (point : Point Asked Carried) : Type 0 where
  pub met : IsOver point.wire.ended point.wire.left

-- No text is open, and no byte is left.
pub record IsEmpty (rest : Rest) : Type 0 where
  pub between : rest.open_text ≡ None
  pub none : rest.bytes ≡ []

-- The end was met, and what was taken before it is answered, or is dropped behind a BYE.
pub record IsClosed (point : Point Asked Carried) : Type 0 where
  pub met : IsOver point.wire.ended point.wire.left
  pub closed : (point.rest.over ≡ true) ⊎ IsEmpty point.rest

-- what taking a line did, where there was one
abbrev pub NextGoes : Bool → Bool → Point Asked Carried → Here → Type 0
NextGoes true alone from here = Gone alone from here
NextGoes false alone from here = Went IsPart alone from here

-- what a read did
abbrev pub ReadGoes : Got → Bool → Point Asked Carried → Here → Type 0
ReadGoes (Bytes count) alone from here = Gone alone from here
ReadGoes End alone from here = Went IsMet alone from here
ReadGoes NotYet alone from here = Went IsUnmet alone from here
ReadGoes Failed alone from here = Went IsUnmet alone from here

-- what a step of a turn did: the session went on, or the turn stops
abbrev pub StepGoes : Option Turn → Bool → Point Asked Carried → Here → Type 0
StepGoes None alone from here = Gone alone from here
StepGoes (Some turn) alone from here = TurnGoes turn alone from here

-- how much a reader may still part into lines, each byte that wasn't read counted twice
abbrev pub to_do : Buffered → ℕ
to_do reader = 2 * (MOST_BYTES - reader.taken) + length reader.bytes
