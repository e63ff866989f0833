use Rattle.std.proofs.Common.{◌≡◌, None}
use Rattle.desks.specs.Doors.{HasServed, door_view, station}
use Rattle.session.specs.Shelved.{shelved}
use Rattle.desks.proofs.doors.serve_door.Given as goal

-- So many clients as were counted were served, and nobody is out.
abbrev pub invariant-loop-clients : goal.invariant-loop-clients
invariant-loop-clients g l =
    let shown = door_view g.D.Door g.D.Client.Source g.D.Client.Sink in
    HasServed l.clients (station (shelved g.H.Shelf l.fn.shelf) (shown l.fn.door))
    (station (shelved g.H.Shelf l.shelf) (shown l.door))
    × (g.D.Door.out l.door ≡ None)
