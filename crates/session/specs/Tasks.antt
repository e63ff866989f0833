-- A session as a task.
use Rattle.std.specs.Prelude.{◌≡◌, List, None, Some}
use Rattle.std.specs.declared.option.Option.{Option}
use Rattle.futures.specs.declared.task.Poll.{Poll}
use Rattle.futures.specs.declared.task.Poll.TheVariants.{Pending, Ready}
use Rattle.session.specs.Reporting.{IsHeld}
use Rattle.session.specs.Turns.{Kept}
use Rattle.session.specs.declared.session.SessionEnd.{SessionEnd}
use Rattle.session.specs.declared.session.Turn.{Turn}
use Rattle.session.specs.declared.session.Turn.TheVariants.{Ended, NotYet}
use Rattle.tree_versions.specs.Records.{RecordView}

-- What a task keeps between two turns, and how its session has ended, if it has.
pub record TaskView : Type 0 where
  pub kept : Kept
  pub ended : Option SessionEnd

-- how a turn ended a session, if it did
abbrev pub end_of : Turn → Option SessionEnd
end_of (Ended end) = Some end
end_of NotYet = None

-- The session has ended, or the record of its reply in work is among these.
abbrev pub CanTurn : List RecordView → TaskView → Type 0
CanTurn records task = task.ended ≡ None → IsHeld records task.kept.work

-- the turn that a poll made, by what it answers
abbrev pub turn_of : Poll SessionEnd → Turn
turn_of (Ready end) = Ended end
turn_of Pending = NotYet
