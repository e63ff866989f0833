use Rattle.crossbeam_queue.specs.Passes.{view, IsPassOf}
use Rattle.job_queue.specs.Counts.{IsDraining}
use Rattle.job_queue.proofs.jobs.drain.Given as goal

abbrev pub invariant-loop : goal.invariant-loop
invariant-loop g l = IsPassOf l.bench l.raw × IsDraining (view l.initial.raw) l.left (view l.raw)
