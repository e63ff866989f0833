use Rattle.std.proofs.Common.{◌≡◌, ◌-◌, All, false, [], length}
use Rattle.crossbeam_queue.specs.Passes.{view, IsPassOf}
use Rattle.job_queue.specs.Passes.{new_pass}
use Rattle.job_queue.specs.Rule.{known}
use Rattle.job_queue.proofs.jobs.split.Given as goal

abbrev pub invariant-loop-worker : goal.invariant-loop-worker
invariant-loop-worker l =
    IsPassOf l.bench l.raw
    × (l.raw.table_id ≡ l.fn.raw.table_id)
    × (view l.raw ≡ known (l.workers - l._worker) l.workers (l.workers - l._worker) false (view l.fn.raw).jobs [])
    × (length l.passes.items ≡ l._worker)
    × All (λ p. p ≡ new_pass l.fn.raw.table_id (view l.fn.raw).jobs l.workers) l.passes.items
