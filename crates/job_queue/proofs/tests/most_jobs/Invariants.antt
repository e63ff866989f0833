use Rattle.std.proofs.Common.{◌≡◌, ◌+◌, length}
use Rattle.job_queue.proofs.tests.most_jobs.Given as goal

abbrev pub invariant-loop-job : goal.invariant-loop-job
invariant-loop-job l = length l.jobs.items + 1 ≡ l.job
