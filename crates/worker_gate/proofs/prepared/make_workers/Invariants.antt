use Rattle.std.proofs.Common.{◌≡◌, ◌+◌, All, length}
use Rattle.worker_gate.proofs.prepared.make_workers.Given as goal

abbrev pub invariant-loop-pass : goal.invariant-loop-pass
invariant-loop-pass g l =
    (length l.workers.items ≡ length l.yielded)
    × (l.rest.parts + length l.yielded ≡ l.initial.rest.parts)
    × All (λ w. w.pass.queue ≡ l.queue) l.workers.items
