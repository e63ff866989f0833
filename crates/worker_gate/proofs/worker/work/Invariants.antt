use Rattle.std.proofs.Common.{◌≡◌}
use Rattle.worker_gate.proofs.worker.work.Given as goal

abbrev pub invariant-loop : goal.invariant-loop
invariant-loop g l = l.me.pass.queue ≡ l.initial.me.pass.queue
