use Rattle.std.proofs.Common.{◌≡◌, ◌+◌, ◌*◌, ◌≤◌, length, sum_by, vec_capacity}
use Rattle.tree_versions.proofs.tests.leave_desks.Given as goal
use Rattle.tree_versions.specs.Boards.{SeatView}
use Rattle.tree_versions.specs.declared.tests.TheConstants.{TURNS}

abbrev pub invariant-loop-desk : goal.invariant-loop-desk
invariant-loop-desk g l =
    (length l.seats.items + length l.desks.items ≡ length l.initial.desks.items)
    × (length l.initial.desks.items ≤ vec_capacity l.seats) × (l.all ≤ length l.seats.items * TURNS)
    × (sum_by (λ (seat : SeatView). seat.own) l.seats.items ≡ l.all)

abbrev pub decreases-loop-desk : goal.decreases-loop-desk
decreases-loop-desk g l = length l.desks.items
