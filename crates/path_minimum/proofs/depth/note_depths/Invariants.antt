use Rattle.std.proofs.Common.{◌≡◌, ℕ, ◌<◌, true}
use Rattle.cut_model.specs.Cuts.{set_of}
use Rattle.path_minimum.specs.Walks.{AreKnown}
use Rattle.path_minimum.proofs.depth.note_depths.Given as goal

-- the routers before this one are known
abbrev pub invariant-loop-router : goal.invariant-loop-router
invariant-loop-router l = record {
  known : AreKnown l.finished.tree l.known l.depths;
  before : (c : ℕ) → c < l.router → set_of l.known c ≡ true;
}
