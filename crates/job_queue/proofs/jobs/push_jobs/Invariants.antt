use Rattle.std.proofs.Common.{◌≡◌, false, [], take}
use Rattle.crossbeam_queue.specs.Passes.{view, IsPassOf}
use Rattle.job_queue.specs.Rule.{known}
use Rattle.job_queue.proofs.jobs.push_jobs.Given as goal

abbrev pub invariant-loop-job : goal.invariant-loop-job
invariant-loop-job g l = IsPassOf l.bench l.raw × (view l.raw ≡ known 1 1 0 false (take l.job-index l.jobs) [])
