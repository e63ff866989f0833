use Rattle.std.proofs.Common.{rules, inr}
use Rattle.job_queue.proofs.Moves.{takes, knows}
use Rattle.job_queue.proofs.jobs.drain.Goals as goal

pub pop_as-requires-clause-rule : goal.pop_as-requires-clause-rule
pop_as-requires-clause-rule g c =
    (takes _ _ (inr (search rules)) (search rules), knows _ _ (search rules) (search rules))
