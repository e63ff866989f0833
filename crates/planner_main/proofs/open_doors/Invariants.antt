use Rattle.std.proofs.Common.{◌≡◌, All, false}
use Rattle.planner_main.proofs.open_doors.Given as goal

-- Nobody is out of the doors so far.
abbrev pub invariant-loop-number : goal.invariant-loop-number
invariant-loop-number g l = All (λ door. door.is_out ≡ false) l.doors.items
