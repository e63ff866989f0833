use Rattle.std.proofs.Common.{◌≡◌, false, []}
use Rattle.crossbeam_queue.specs.Passes.{view, IsPassOf}
use Rattle.job_queue.specs.Rule.{known}
use Rattle.job_queue.proofs.jobs.push_marks.Given as goal

abbrev pub invariant-loop-worker : goal.invariant-loop-worker
invariant-loop-worker g l =
    IsPassOf l.bench l.raw × (view l.raw ≡ known l._worker l._worker l._worker false (view l.fn.raw).jobs [])
