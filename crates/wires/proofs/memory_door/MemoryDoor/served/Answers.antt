use Rattle.std.proofs.Common.{sym, ap, map, arith, ◌∙◌}
use Rattle.std.proofs.lemmas.Slice.Zip.{seconds-zip}
use Rattle.wires.specs.Doors.{Beginning}
use Rattle.wires.specs.MemoryDoors.{Lobby}
use Rattle.wires.specs.declared.memory_peer.MemoryPeer.{MemoryPeer}
use Rattle.wires.proofs.memory_door.MemoryDoor.served.Goals as goal

pub returns : goal.returns
returns c =
    let inside = c.self.inside in
    c.as_slice.ensures.value ∙ sym (seconds-zip inside.beginnings.items inside.served.items (omega arith))
    ∙ ap (λ (d : Lobby). map (λ (visit : Beginning × MemoryPeer). visit.1) d.served) c.self.view_is
