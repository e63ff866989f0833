use Rattle.std.proofs.Common.{◌≡◌, ◌+◌, ◌≤◌, length, vec_capacity}
use Rattle.std.specs.Prelude.{All}
use Rattle.tree_versions.proofs.opening.make_seats.Given as goal
use Rattle.tree_versions.specs.Boards.{IsNew}

abbrev pub invariant-loop : goal.invariant-loop
invariant-loop g l =
    (length l.seats.items ≡ l.counter) × (l.desks ≤ vec_capacity l.seats)
    × (l.rest.parts + length l.seats.items ≡ l.initial.rest.parts) × (l.rest.amount ≡ 0) × All IsNew l.seats.items
