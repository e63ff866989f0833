-- The exit statuses of the program.
use Rattle.std.specs.Prelude.{ℕ}
use Rattle.planner_server.specs.declared.outcome.Status.{Status}
use Rattle.planner_server.specs.declared.outcome.Status.TheVariants.{Done, BadWords, ReadFault, WriteFault}
use Rattle.planner_server.specs.declared.outcome.Status.TheVariants.{NoMemory, TooLong, DoorFault, NotAccepted}

-- the exit status that stands for a status of a run
abbrev pub exit_code : Status → ℕ
exit_code Done = 0
exit_code BadWords = 1
exit_code ReadFault = 2
exit_code WriteFault = 3
exit_code NoMemory = 4
exit_code TooLong = 5
exit_code DoorFault = 6
exit_code NotAccepted = 7
