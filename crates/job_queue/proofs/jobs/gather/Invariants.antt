use Rattle.std.proofs.Common.{◌≡◌, ◌+◌, ◌*◌, ◌≤◌, length, sum_by}
use Rattle.cut_model.specs.declared.network.TheConstants.{MOST_ROUTERS}
use Rattle.crossbeam_queue.specs.Passes.{view, IsPassOf}
use Rattle.job_queue.specs.Counts.{IsGathered}
use Rattle.job_queue.proofs.jobs.gather.Given as goal

abbrev pub invariant-loop-pass : goal.invariant-loop-pass
invariant-loop-pass l =
    IsPassOf l.bench l.raw
    × (l.raw.table_id ≡ l.initial.raw.table_id)
    × IsGathered (view l.initial.raw) l.yielded (view l.raw)
    × (l.taken ≡ l.initial.taken + sum_by (λ p. length p.taken) l.yielded)
    × (l.taken ≤ MOST_ROUTERS + MOST_ROUTERS * length l.yielded)
