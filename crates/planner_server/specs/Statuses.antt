-- The statuses of a run.
use Rattle.std.specs.Prelude.{ℕ, Bool, false, true, Result, Ok, Err}
use Rattle.certifier.specs.declared.checking.CheckEnd.{CheckEnd}
use Rattle.certifier.specs.declared.checking.CheckEnd.TheVariants as check_ends
use Rattle.planner_server.specs.declared.outcome.Status.{Status}
use Rattle.planner_server.specs.declared.outcome.Status.TheVariants.{Done, ReadFault, WriteFault, TooLong}
use Rattle.planner_server.specs.declared.outcome.Status.TheVariants.{DoorFault, NoMemory, NotAccepted}
use Rattle.session.specs.declared.session.SessionEnd.{SessionEnd}
use Rattle.session.specs.declared.session.SessionEnd.TheVariants as ends
use Rattle.wires.specs.Causes.{CountsOne}

-- the status that a session's end gives
abbrev pub status_of : SessionEnd → Status
status_of ends.Done = Done
status_of ends.ReadFault = ReadFault
status_of ends.WriteFault = WriteFault
status_of ends.TooLong = TooLong

-- the status that the end of a check gives
abbrev pub check_status : CheckEnd → Status
check_status check_ends.Accepted = Done
check_status (check_ends.Refused fault line) = NotAccepted
check_status check_ends.ReadFault = ReadFault
check_status check_ends.WriteFault = WriteFault
check_status check_ends.TooLong = TooLong
check_status check_ends.NoMemory = NoMemory

-- the run ended by a failed read
abbrev pub is_read_fault : Status → Bool
is_read_fault ReadFault = true
is_read_fault status = false

-- the run ended by a failed put
abbrev pub is_write_fault : Status → Bool
is_write_fault WriteFault = true
is_write_fault status = false

-- the count of a sink's faults is one more where the run ended by a failed put, and else as before; where a door failed
-- a put may have failed as well
abbrev pub CountsPut : Status → ℕ → ℕ → Type 0
CountsPut DoorFault before now = (failed : Bool) × CountsOne before now failed
CountsPut status before now = CountsOne before now (is_write_fault status)

-- the status that `serve` ends with: a door that failed goes before a sink that failed
abbrev pub serve_status : {E : Type 0} → Bool → Result (Unit {0}) E → Status
serve_status true written = DoorFault
serve_status false (Ok done) = Done
serve_status false (Err fault) = WriteFault
