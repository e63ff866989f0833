use Rattle.std.proofs.Common.{◌≡◌, ℕ, ◌<◌, true}
use Rattle.cut_model.specs.Cuts.{set_of}
use Rattle.path_minimum.specs.Stretches.{IsDraftOf}
use Rattle.path_minimum.proofs.walk.walk_order.Given as goal

-- the routers before this one have a place
abbrev pub invariant-loop-router : goal.invariant-loop-router
invariant-loop-router l = record {
  draft_is : IsDraftOf l.finished.tree l.draft;
  before : (c : ℕ) → c < l.router → set_of l.draft.placed c ≡ true;
}
