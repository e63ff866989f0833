use Rattle.std.proofs.Common.{◌≡◌, ◌≢◌, ℕ, ◌<◌, length, get_or}
use Rattle.dinic_flow.proofs.search.unlabel.Given as goal

abbrev pub invariant-loop-router : goal.invariant-loop-router
invariant-loop-router l = record {
  size : length l.label ≡ length l.fn.label;
  cleared : (k : ℕ) → k < l.router-index → get_or l.label (get_or l.queue k 0) 0 ≡ 0;
  kept : (r : ℕ) → ((k : ℕ) → k < length l.queue → get_or l.queue k 0 ≢ r) →
      get_or l.label r 0 ≡ get_or l.fn.label r 0;
}
