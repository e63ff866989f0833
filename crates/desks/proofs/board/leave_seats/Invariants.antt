use Rattle.std.proofs.Common.{◌≡◌, ◌++◌, map, vec_capacity}
use Rattle.std.specs.Vec.Iter.{into_iter_items}
use Rattle.desks.proofs.board.leave_seats.Given as goal

-- The seats so far are back.
abbrev pub invariant-loop-kit : goal.invariant-loop-kit
invariant-loop-kit g l =
    (l.yielded ++ into_iter_items l.kit-iterator ≡ l.fn.kits.items)
    × (l.seats.items ≡ map (λ kit. kit.shelf.seat) l.yielded)
    × (vec_capacity l.seats ≡ vec_capacity l.fn.seats)
