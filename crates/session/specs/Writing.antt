-- What putting the reply in work does.
use Rattle.std.specs.Prelude.{◌≡◌, ℕ, List, [], ◌++◌, Bool, true, None, Some}
use Rattle.std.specs.declared.option.Option.{Option}
use Rattle.session.specs.Points.{IsIdle, Point, Rest, Stretch, Work}
use Rattle.certifier.specs.Blocks.{Carried}
use Rattle.session.specs.Reporting.{ReportLine}
use Rattle.session.specs.Shelved.{Shelved}
use Rattle.session.specs.Turns.{TurnCounts, is_owed}
use Rattle.session.specs.declared.desk.Asked.{Asked}
use Rattle.session.specs.declared.session.SessionEnd.TheVariants.{WriteFault}
use Rattle.session.specs.declared.session.Turn.{Turn}
use Rattle.session.specs.declared.session.Turn.TheVariants.{Ended, NotYet}
use Rattle.wires.specs.Lazy.{Counts, Wire}

-- A reply in work beside the wire that it is written to.
pub record Written : Type 0 where
  pub wire : Wire
  pub work : Work Asked Carried

-- a session over this shelf with this rest
abbrev pub point_of : Shelved → Rest → Written → Point Asked Carried
point_of shelf rest at = record { shelf = shelf; wire = at.wire; rest = rest; work = at.work }

-- A put failed: a front of the run was written then.
pub record PutBreaks (alone : Bool) (a b : Point Asked Carried) : Type 0 where
  pub front : List ℕ
  pub run : List ℕ
  pub split : b.work.run ≡ front ++ run
  pub on : Stretch ReportLine alone a (record b { work = record b.work { run = run } }) []

-- what putting did, by its answer: none where nothing is owed any more
abbrev pub PutGoes : Option Turn → Bool → Point Asked Carried → Point Asked Carried → Type 0
PutGoes None alone a b = Stretch ReportLine alone a b []
PutGoes (Some NotYet) alone a b = Stretch ReportLine alone a b []
PutGoes (Some (Ended WriteFault)) alone a b = PutBreaks alone a b
PutGoes (Some (Ended end)) alone a b = ⊥

-- why putting a run stopped: none of it is left, or the peer took no more
abbrev pub RunStops : Option Turn → Work Asked Carried → Type 0
RunStops None work = work.run ≡ []
RunStops (Some turn) work = is_owed work ≡ true

-- why putting stopped: nothing is owed any more, or the peer took no more
abbrev pub PutStops : Option Turn → Work Asked Carried → Type 0
PutStops None work = IsIdle work
PutStops (Some turn) work = is_owed work ≡ true

-- what a step of a turn does to the counts of its peer, where a reply is in work then: nothing, unless the turn stops
abbrev pub StepCounts : Option Turn → Bool → Counts → Counts → Type 0
StepCounts None owed old new = new ≡ old
StepCounts (Some turn) owed old new = TurnCounts turn owed old new
