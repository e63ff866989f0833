use Rattle.std.proofs.Common.{◌≡◌, ◌+◌, length, sum_by}
use Rattle.tree_versions.proofs.closing.gather.Given as goal
use Rattle.tree_versions.specs.Boards.{SeatView}

abbrev pub invariant-loop-seat : goal.invariant-loop-seat
invariant-loop-seat g l =
    (l.rest.parts ≡ l.initial.rest.parts + length l.yielded)
    × (l.rest.amount ≡ l.initial.rest.amount + sum_by (λ (seat : SeatView). seat.own) l.yielded)
