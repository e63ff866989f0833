use Rattle.std.proofs.Common.{rules}
use Rattle.wires.proofs.Visits.{served_once}
use Rattle.wires.specs.Doors.{begun}
use Rattle.wires.proofs.door_tests.hear_one.Goals as goal

pub returns-clause-served : goal.returns-clause-served
returns-clause-served g c =
    let given = c.in-Some.client in
    let source = g.D.Client.Source in
    let sink = g.D.Client.Sink in
    let shown =
    begun (source.left given) (sink.written given) (source.read_faults given) (sink.write_faults given) in
    let next = c.in_ok-client.ensures in
    let is_out = rw c.in-Some.is at next.out in
    let heard = c.read.new.self in
    let door = g.D.Door in
    let now = door.served c.back.new.self in
    let once =
    served_once (door.out c.next.new.self) shown heard _ _ now next.served is_out c.back.ensures.served in
    (shown, heard, search rules, once)
