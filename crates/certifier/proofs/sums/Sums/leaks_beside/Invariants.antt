use Rattle.std.proofs.Common.{◌≡◌, ℕ, ◌<◌, false}
use Rattle.certifier.specs.Sums.{some_stays}
use Rattle.certifier.proofs.sums.Sums.leaks_beside.Given as goal

abbrev pub invariant-loop-router : goal.invariant-loop-router
invariant-loop-router l = (k : ℕ) → k < l.router → some_stays l.self.sums l.child l.up k ≡ false
