use Rattle.job_queue.proofs.Moves.{puts}
use Rattle.job_queue.proofs.jobs.push.Goals as goal

pub push_as-requires-clause-rule : goal.push_as-requires-clause-rule
push_as-requires-clause-rule g c = (puts _ _ _ _ c.requires.alone c.requires.unended c.requires.order, λ _ _ _ _. tt)
