-- A run that reads nothing took no bytes.
use Rattle.std.proofs.Common.{◌≡◌, ℕ, List, ◌++◌, length, Some, sym, ap, ◌∙◌, arith, length-append, inr, refl}
use Rattle.std.specs.declared.option.Option.{Option}
use Rattle.line_reader.specs.declared.reader.TheConstants.{MOST_BYTES}
use Rattle.planner_server.specs.Runs.{PlanRan, RunView}
use Rattle.planner_server.specs.declared.outcome.Status.TheVariants.{NoMemory}

-- where nothing was taken, not many bytes were
none_taken : (told : Option (List ℕ)) (taken rest : List ℕ) → told ≡ Some (taken ++ rest) → told ≡ Some rest
    → length taken ≡ MOST_BYTES → ⊥
none_taken told taken rest before after many =
    let same : taken ++ rest ≡ rest = (let e : Some (taken ++ rest) ≡ Some rest = sym before ∙ after in cc) in
    omega (arith, ap length same, length-append taken rest)

-- where there was no memory to begin with, `plan` leaves the source as it was
pub no_memory : (run : RunView) → run.now.wire.left ≡ run.start.wire.left → PlanRan NoMemory run
no_memory run same = record {
  ends = tt;
  completes = λ bytes is few reads puts. inr refl;
  always_too_long = λ taken rest before after many unmet quiet sound.
      absurd (none_taken run.start.wire.left taken rest before (sym same ∙ after) many);
}
