use Rattle.std.proofs.Common.{refl}
use Rattle.planner_server.proofs.Deciding.{no_memory}
use Rattle.planner_server.proofs.planner.plan.Goals as goal

pub returns-in_default-clause-ran : goal.returns-in_default-clause-ran
returns-in_default-clause-ran g c = rw c.without_records.ensures.status (no_memory _ refl)
