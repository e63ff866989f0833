use Rattle.std.proofs.Common.{◌≡◌, ℕ, ◌<◌, true, length, get_or}
use Rattle.cut_model.specs.Cuts.{set_of}
use Rattle.dinic_flow.proofs.cut.hold_only.Given as goal

abbrev pub invariant-loop-router : goal.invariant-loop-router
invariant-loop-router l = record {
  size : length l.side ≡ length l.fn.side;
  put : ((k : ℕ) → k < l.router-index → set_of l.side (get_or l.routers k 0) ≡ true);
  only : ((r : ℕ) → set_of l.side r ≡ true → (k : ℕ) × (k < l.router-index) × (get_or l.routers k r ≡ r));
}
