use Rattle.std.proofs.Common.{◌≡◌}
use Rattle.worker_gate.proofs.worker.commit.Given as goal

abbrev pub invariant-loop : goal.invariant-loop
invariant-loop g l = l.me.pass ≡ l.initial.me.pass
