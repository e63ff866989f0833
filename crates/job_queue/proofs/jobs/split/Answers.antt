use Rattle.std.proofs.Common.{rules}
use Rattle.job_queue.proofs.Moves.{forks}
use Rattle.job_queue.proofs.jobs.split.Goals as goal

pub another-other-requires-clause-rule : goal.another-other-requires-clause-rule
another-other-requires-clause-rule c = forks _ _ (search rules) (search rules)
