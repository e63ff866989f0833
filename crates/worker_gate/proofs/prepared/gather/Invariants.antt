use Rattle.std.proofs.Common.{◌≡◌, ◌+◌, length, sum_by}
use Rattle.worker_gate.proofs.prepared.gather.Given as goal

abbrev pub invariant-loop-worker : goal.invariant-loop-worker
invariant-loop-worker g l =
    (l.rest.parts ≡ l.initial.rest.parts + length l.yielded)
    × (l.rest.amount ≡ l.initial.rest.amount + sum_by (λ w. w.share.amount) l.yielded)
