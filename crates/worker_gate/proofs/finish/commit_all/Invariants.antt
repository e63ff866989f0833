use Rattle.std.proofs.Common.{◌≡◌}
use Rattle.worker_gate.specs.Building.{IsDoneTo}
use Rattle.worker_gate.proofs.finish.commit_all.Given as goal

abbrev pub invariant-loop-router : goal.invariant-loop-router
invariant-loop-router l =
    (l.desk.net ≡ l.net) × (l.grow.net ≡ l.net) × IsDoneTo l.net l.grow.history l.router
