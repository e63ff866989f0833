-- How `serve` ends.
use Rattle.std.proofs.Common.{◌≡◌, ℕ, Bool, true, false, Result, Ok, Err, refl, arith}
use Rattle.planner_server.specs.Statuses.{serve_status}
use Rattle.planner_server.specs.declared.outcome.Status.TheVariants.{Done, DoorFault}
use Rattle.wires.specs.Causes.{HasCause, Rose}

-- a door's fault is told only where a door failed
pub fault_failed : {E : Type 0} (failed : Bool) (written : Result (Unit {0}) E)
    → serve_status failed written ≡ DoorFault → failed ≡ true
fault_failed true written is = refl
fault_failed false (Ok done) is = absurd (cc)
fault_failed false (Err fault) is = absurd (cc)

-- where neither a door nor the put failed, all is done
pub quiet_done : {E : Type 0} (failed : Bool) (written : Result (Unit {0}) E) (before now : ℕ)
    → HasCause before now written → (Rose before now → ⊥) → (failed ≡ true → ⊥) → serve_status failed written ≡ Done
quiet_done true written before now cause quiet sound = absurd (sound refl)
quiet_done false (Ok done) before now cause quiet sound = refl
quiet_done false (Err fault) before now cause quiet sound = absurd (quiet (omega (arith, cause.failed)))
