use Rattle.std.proofs.Common.{◌≡◌, ◌≤◌, ◌+◌, ◌*◌, ◌^◌, All, None, length, vec_capacity}
use Rattle.std.specs.Vec.Iter.{into_iter_items, into_iter_len}
use Rattle.desks.specs.Desks.{ServesFront}
use Rattle.desks.specs.Doors.{door_view}
use Rattle.session.specs.Shelved.{shelved}
use Rattle.desks.proofs.seating.serve_left_over.Given as goal

-- So many doors as were counted were served.
abbrev pub invariant-loop-number : goal.invariant-loop-number
invariant-loop-number g l =
    ServesFront (door_view g.D.Door g.D.Client.Source g.D.Client.Sink) l.fn.means.quota l._number
    (shelved g.H.Shelf l.fn.kit.shelf) (shelved g.H.Shelf l.kit.shelf)
    (record { waiting = into_iter_items l.fn.waiting; doors = l.fn.doors.items })
    (record { waiting = into_iter_items l.waiting; doors = l.doors.items }) l.all
    × All (λ door. g.D.Door.out door ≡ None) (into_iter_items l.waiting)
    × (into_iter_len l.waiting + l._number ≡ into_iter_len l.fn.waiting)
    × (l.all.clients ≤ 2 ^ 32 * l._number)
    × (length l.doors.items ≡ length l.fn.doors.items + l._number)
    × (vec_capacity l.doors ≡ vec_capacity l.fn.doors)
