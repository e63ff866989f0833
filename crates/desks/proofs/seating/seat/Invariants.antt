use Rattle.std.proofs.Common.{◌≡◌, ◌++◌, ◌+◌, length, map, vec_capacity}
use Rattle.std.specs.Vec.Iter.{into_iter_items, into_iter_len}
use Rattle.desks.proofs.seating.seat.Given as goal

-- As many doors were taken as there are desks.
abbrev pub invariant-loop-kit : goal.invariant-loop-kit
invariant-loop-kit g l =
    (l.yielded ++ into_iter_items l.kit-iterator ≡ l.fn.kits.items)
    × (into_iter_items l.fn.waiting ≡ map (λ desk. desk.door) l.desks.items ++ into_iter_items l.waiting)
    × (map (λ desk. desk.kit) l.desks.items ≡ l.yielded)
    × (into_iter_len l.waiting + length l.yielded ≡ into_iter_len l.fn.waiting)
    × (vec_capacity l.desks ≡ vec_capacity l.fn.desks)
