use Rattle.std.proofs.Common.{◌≡◌, ◌++◌, ◌+◌, length, vec_capacity}
use Rattle.std.specs.Vec.Iter.{into_iter_items, into_iter_len}
use Rattle.desks.proofs.seating.put_behind.Given as goal

-- The doors so far stand behind the others.
abbrev pub invariant-loop-door : goal.invariant-loop-door
invariant-loop-door g l =
    (l.doors.items ++ into_iter_items l.door-iterator ≡ l.fn.doors.items ++ into_iter_items l.fn.waiting)
    × (length l.doors.items + into_iter_len l.door-iterator ≡ length l.fn.doors.items + into_iter_len l.fn.waiting)
    × (vec_capacity l.doors ≡ vec_capacity l.fn.doors)
