use Rattle.left_right.specs.Handles.{pending, published}
use Rattle.std.proofs.Common.{◌≡◌}
use Rattle.tree_versions.proofs.publisher.append.Given as goal

abbrev pub invariant-loop : goal.invariant-loop
invariant-loop g l =
    (published l.writer ≡ published l.initial.writer) × (pending l.writer ≡ pending l.initial.writer)
    × (l.addition ≡ l.initial.addition)
