use Rattle.std.proofs.Common.{rules, inl}
use Rattle.job_queue.proofs.Moves.{takes, leaves}
use Rattle.job_queue.proofs.jobs.Jobs.take.Goals as goal

pub pop_as-requires-clause-rule : goal.pop_as-requires-clause-rule
pop_as-requires-clause-rule g c = (takes _ _ (inl (search rules)) (search rules), leaves _ _)
