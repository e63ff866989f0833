use Rattle.std.proofs.Common.{◌≡◌, ℕ, ◌<◌, true, length}
use Rattle.cut_model.specs.Cuts.{set_of}
use Rattle.path_minimum.proofs.ladder.everyone.Given as goal

-- the routers before this one are in
abbrev pub invariant-loop-router : goal.invariant-loop-router
invariant-loop-router l = record {
  size : length l.side ≡ l.finished.tree.net.routers;
  before : (c : ℕ) → c < l.router → set_of l.side c ≡ true;
}
