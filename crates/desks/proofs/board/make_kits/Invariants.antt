use Rattle.std.proofs.Common.{◌≡◌, ◌≤◌, ◌+◌, All, length, sum_by, vec_capacity}
use Rattle.tree_versions.specs.Boards.{IsNew}
use Rattle.desks.proofs.board.make_kits.Given as goal

-- Each seat is one of a kit, or still new in the list.
abbrev pub invariant-loop-seat : goal.invariant-loop-seat
invariant-loop-seat g l =
    (length l.kits.items + length l.seats.items ≡ length l.fn.seats.items)
    × (length l.seats.items ≤ length l.sessions.items)
    × All IsNew l.seats.items
    × (sum_by (λ kit. kit.shelf.seat.own) l.kits.items ≡ 0)
    × (length l.fn.seats.items ≤ vec_capacity l.kits)
    × (vec_capacity l.seats ≡ vec_capacity l.fn.seats)

abbrev pub decreases-loop-seat : goal.decreases-loop-seat
decreases-loop-seat g l = length l.seats.items
