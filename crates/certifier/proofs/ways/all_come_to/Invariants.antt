use Rattle.std.proofs.Common.{◌≡◌, ◌<◌, ℕ, true, length}
use Rattle.std.specs.Prelude.{slice_index}
use Rattle.tree_state.specs.Tables.{below}
use Rattle.certifier.proofs.ways.all_come_to.Given as goal

-- the ways up of the routers before this one come to the root
abbrev pub invariant-loop-router : goal.invariant-loop-router
invariant-loop-router l = record {
  before : (r : ℕ) → r < l.router → below (length l.up) (slice_index l.up) l.root r ≡ true;
}
