use Rattle.std.proofs.Common.{◌+◌, ◌<◌, ◌≤◌, All, length}
use Rattle.worker_gate.specs.Building.{IsJob}
use Rattle.worker_gate.proofs.prepared.jobs_of.Given as goal

abbrev pub invariant-loop-router : goal.invariant-loop-router
invariant-loop-router l =
    All (λ router. IsJob l.net router) l.jobs.items
    × (length l.jobs.items ≤ l.router)
    × (l.root < l.router → length l.jobs.items + 1 ≤ l.router)
