-- What one turn of a session does.
use Rattle.std.specs.Prelude.{◌≡◌, ℕ, ◌+◌, ◌<◌, ◌⊎◌, ◌&&◌, List, [], Bool, true, false, length, nat_lt, not, None}
use Rattle.std.specs.declared.option.Option.{Option}
use Rattle.line_reader.specs.Buffered.{Buffered, Holds, fresh}
use Rattle.line_reader.specs.declared.reader.TheConstants.{MOST_BYTES}
use Rattle.session.specs.Goings.{Going, GoingBroken}
use Rattle.session.specs.Points.{IsIdle, Point, Work, items_after}
use Rattle.certifier.specs.Blocks.{Carried}
use Rattle.session.specs.Reporting.{ReportLine}
use Rattle.session.specs.Sessions.{IsOver, Moment}
use Rattle.session.specs.Taking.{HasOpen}
use Rattle.session.specs.declared.desk.Asked.{Asked}
use Rattle.session.specs.declared.intake.Intake.{Intake}
use Rattle.session.specs.declared.session.SessionEnd.TheVariants.{Done, ReadFault, WriteFault, TooLong}
use Rattle.session.specs.declared.session.Turn.{Turn}
use Rattle.session.specs.declared.session.Turn.TheVariants.{Ended, NotYet}
use Rattle.wires.specs.Causes.{CountsOne}
use Rattle.wires.specs.Lazy.{Counts}

-- What a session keeps between two steps: what is open, the reader of its lines, whether a BYE was answered, and the
-- reply in work.
pub record Kept : Type 0 where
  pub intake : Intake
  pub reader : Buffered
  pub over : Bool
  pub work : Work Asked Carried

-- A session that begins anew: no bytes are held or counted, no text is open, and nothing is owed.
pub record IsAnew (kept : Kept) : Type 0 where
  pub between : HasOpen kept.intake None
  pub reader : kept.reader ≡ fresh
  pub holds : Holds kept.reader []
  pub on : kept.over ≡ false
  pub idle : IsIdle kept.work

-- A session at a moment.
pub record Here : Type 0 where
  pub now : Moment
  pub kept : Kept

-- the point at which a session is, where this text is open and these bytes belong to no item
abbrev pub point_at : Here → Option (List (List ℕ)) → List ℕ → Point Asked Carried
point_at here open_text bytes = record {
  shelf = here.now.shelf;
  wire = here.now.wire;
  rest = record { taken = here.kept.reader.taken; over = here.kept.over; open_text = open_text; bytes = bytes };
  work = here.kept.work;
}

-- This text may be open and these bytes may belong to no item: what is kept doesn't tell it, since of a long line its
-- front is kept, and of a text what it says. Its peer's end wasn't met where it took all that it may.
pub record MayBe (here : Here) (open_text : Option (List (List ℕ))) (bytes : List ℕ) : Type 0 where
  pub text : here.kept.over ≡ false → HasOpen here.kept.intake open_text
  pub rest : Holds here.kept.reader bytes
  pub unmet : here.kept.reader.taken ≡ MOST_BYTES → here.now.wire.ended ≡ false

-- The session went on from a point to here, of which P holds.
pub record Went (P : Point Asked Carried → Type 0) (alone : Bool) (from : Point Asked Carried) (here : Here) : Type 0
  where
    pub open_text : Option (List (List ℕ))
    pub bytes : List ℕ
    pub may : MayBe here open_text bytes
    pub on : Going ReportLine alone from (point_at here open_text bytes)
    pub why : P (point_at here open_text bytes)

-- The session broke here in a put.
pub record Broke (alone : Bool) (from : Point Asked Carried) (here : Here) : Type 0 where
  pub open_text : Option (List (List ℕ))
  pub bytes : List ℕ
  pub may : MayBe here open_text bytes
  pub on : GoingBroken ReportLine alone from (point_at here open_text bytes)

-- Nothing is owed, and no whole item is left.
pub record IsThrough (point : Point Asked Carried) : Type 0 where
  pub idle : IsIdle point.work
  pub none : items_after point.rest point.wire.ended [] ≡ []

-- No BYE was answered and no end was met, and more may be taken.
pub record GoesOn (point : Point Asked Carried) : Type 0 where
  pub through : IsThrough point
  pub on : point.rest.over ≡ false
  pub unmet : point.wire.ended ≡ false
  pub more : point.rest.taken < MOST_BYTES

-- a reply is in work
abbrev pub is_owed : Work Asked Carried → Bool
is_owed work = nat_lt 0 (length work.run + work.at.left)

-- why a turn stopped at a point
abbrev pub StopsBy : Turn → Point Asked Carried → Type 0
StopsBy NotYet point = (is_owed point.work ≡ true) ⊎ GoesOn point
StopsBy (Ended ReadFault) point = GoesOn point
StopsBy (Ended WriteFault) point = ⊥
StopsBy (Ended Done) point =
    IsThrough point × ((point.rest.over ≡ true) ⊎ IsOver point.wire.ended point.wire.left)
StopsBy (Ended TooLong) point =
    IsThrough point × (point.rest.over ≡ false) × (point.wire.ended ≡ false) × (point.rest.taken ≡ MOST_BYTES)

-- what a turn did
abbrev pub TurnGoes : Turn → Bool → Point Asked Carried → Here → Type 0
TurnGoes (Ended WriteFault) alone from here = Broke alone from here
TurnGoes turn alone from here = Went (StopsBy turn) alone from here

-- the turn ended by a failed read
abbrev pub is_read_fault : Turn → Bool
is_read_fault (Ended ReadFault) = true
is_read_fault turn = false

-- the turn ended by a failed put
abbrev pub is_write_fault : Turn → Bool
is_write_fault (Ended WriteFault) = true
is_write_fault turn = false

-- the peer wasn't ready
abbrev pub is_late : Turn → Bool
is_late NotYet = true
is_late (Ended end) = false

-- What a turn does to the counts of its peer: each is one more at its own answer alone.
pub record TurnCounts (turn : Turn) (owed : Bool) (old new : Counts) : Type 0 where
  pub read_faults : CountsOne old.read_faults new.read_faults (is_read_fault turn)
  pub write_faults : CountsOne old.write_faults new.write_faults (is_write_fault turn)
  pub reads_not_yet : CountsOne old.reads_not_yet new.reads_not_yet (is_late turn && not owed)
  pub puts_not_yet : CountsOne old.puts_not_yet new.puts_not_yet (is_late turn && owed)
