use Rattle.std.proofs.Common.{◌≡◌, ◌-◌, ◌<◌, ◌≤◌, length}
use Rattle.std.specs.Prelude.{◌==◌, slice_index}
use Rattle.tree_state.specs.Tables.{some_up}
use Rattle.certifier.proofs.ways.comes_to.Given as goal

-- the rest of the way comes to the root just where the whole way does
abbrev pub invariant-loop : goal.invariant-loop
invariant-loop l = record {
  within : l.above < length l.up;
  steps : l.counter ≤ length l.up;
  alike :
      some_up (λ j. j == l.root) (slice_index l.up) (length l.up - l.counter) l.above
      ≡ some_up (λ j. j == l.root) (slice_index l.up) (length l.up) l.router;
}
