use Rattle.std.proofs.Common.{ap, map}
use Rattle.std.specs.Option.{option_map}
use Rattle.desks.specs.Doors.{client_view, door_view, station, visit_of}
use Rattle.desks.specs.Visits.{begin_of}
use Rattle.desks.proofs.Serving.{served-more, served-none}
use Rattle.session.specs.Shelved.{shelved}
use Rattle.desks.proofs.doors.serve_door.Goals as goal

pub loop-clients-init : goal.loop-clients-init
loop-clients-init g c = (
  served-none (station (shelved g.H.Shelf c.args.shelf.now)
      (door_view g.D.Door g.D.Client.Source g.D.Client.Sink c.args.door.now)),
  c.requires.nobody,
)

pub loop-clients-preserved : goal.loop-clients-preserved
loop-clients-preserved g c =
    let source = g.D.Client.Source in
    let sink = g.D.Client.Sink in
    let shown = door_view g.D.Door source sink in
    let start = station (shelved g.H.Shelf c.args.shelf.now) (shown c.args.door.now) in
    let mid = station (shelved g.H.Shelf c.loop-clients.shelf) (shown c.loop-clients.door) in
    let now = station (shelved g.H.Shelf c.serve_client.new.shelf) (shown c.serve_client.new.door) in
    let before = c.loop-clients.invariant.0 in
    let client = c.serve_client.ensures before.last before.reached in (
      served-more c.loop-clients.clients start mid now (shown c.next.new.self)
          (begin_of (client_view source sink c.in-Ok-Some.client)) before
          (record {
            quiet = record {
              told = ap (λ s. option_map (map (visit_of source sink)) s) c.next.ensures.served;
              faults = c.in-Ok-Some.ensures.cause.still;
              stays = c.next.ensures.stays;
            };
            open_still = rw c.in-Ok-Some.field-0-is at c.in-Ok-Some.ensures.ended;
          })
          client,
      client.nobody,
    )
