use Rattle.std.proofs.Common.{◌≡◌, ◌≤◌, ◌*◌, ◌^◌, ◌++◌, length, map, vec_capacity}
use Rattle.std.specs.Vec.Iter.{into_iter_items}
use Rattle.desks.specs.Desks.{all_of}
use Rattle.desks.proofs.seating.leave.Given as goal

-- The desks so far have left their doors.
abbrev pub invariant-loop-desk : goal.invariant-loop-desk
invariant-loop-desk g l =
    (l.yielded ++ into_iter_items l.desk-iterator ≡ l.fn.desks.items)
    × (l.doors.items ≡ l.fn.doors.items ++ map (λ desk. desk.door) l.yielded)
    × (l.kits.items ≡ map (λ desk. desk.kit) l.yielded)
    × (l.all ≡ all_of (λ desk. desk.end) l.yielded)
    × (l.all.clients ≤ 2 ^ 32 * length l.yielded)
    × (vec_capacity l.doors ≡ vec_capacity l.fn.doors)
    × (vec_capacity l.kits ≡ vec_capacity l.fn.kits)
