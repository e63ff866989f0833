use Rattle.std.proofs.Common.{◌≡◌, ◌+◌, ◌≤◌, length, vec_capacity}
use Rattle.std.specs.Prelude.{All}
use Rattle.tree_versions.proofs.tests.make_desks.Given as goal
use Rattle.tree_versions.specs.Boards.{IsNew}

abbrev pub invariant-loop-seat : goal.invariant-loop-seat
invariant-loop-seat g l =
    (length l.desks.items + length l.seats.items ≡ length l.initial.seats.items)
    × (length l.initial.seats.items ≤ vec_capacity l.desks) × (length l.initial.seats.items ≤ vec_capacity l.seats)
    × All IsNew l.seats.items

abbrev pub decreases-loop-seat : goal.decreases-loop-seat
decreases-loop-seat g l = length l.seats.items
