use Rattle.std.proofs.Common.{refl, sym, ap, arith, ◌∙◌, Some, ◌++◌, ◌∷◌, []}
use Rattle.wires.proofs.Visits.{zip_more}
use Rattle.wires.specs.MemoryDoors.{Lobby}
use Rattle.wires.proofs.memory_door.MemoryDoorDoor.back.Goals as goal

pub returns-clause-served : goal.returns-clause-served
returns-clause-served c =
    let inside = c.self.inside in
    let begun = c.in-Some.begun in
    let client = c.args.client in
    let out = ap (λ (d : Lobby). d.out) (sym c.self.view_is) ∙ sym c.take.ensures.value ∙ c.in-Some.is in
    let pair = zip_more inside.beginnings.items inside.served.items begun client (omega arith) in
    let more = ap (λ (d : Lobby). Some (d.served ++ (begun, client) ∷ [])) c.self.view_is in
    (begun, rw out refl, rw (c.push_reserved.ensures.items, c.push_reserved-2.ensures.items, pair) more)
