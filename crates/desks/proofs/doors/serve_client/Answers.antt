use Rattle.std.proofs.Common.{refl}
use Rattle.desks.specs.Doors.{client_view, visit_of}
use Rattle.desks.specs.Visits.{begin_of}
use Rattle.desks.proofs.Serving.{told-back}
use Rattle.desks.proofs.Visiting.{session-visit}
use Rattle.session.specs.Sessions.{moment_at}
use Rattle.session.specs.Shelved.{shelved}
use Rattle.desks.proofs.doors.serve_client.Goals as goal

pub returns : goal.returns
returns g c seen low =
    let source = g.D.Client.Source in
    let sink = g.D.Client.Sink in
    let begin = begin_of (client_view source sink c.args.client) in
    let back = c.serve_session.new.peer in
    let start = moment_at (shelved g.H.Shelf c.args.shelf.now) begin.left (source.ended c.args.client) begin.written in
    let now = moment_at (shelved g.H.Shelf c.serve_session.new.shelf) (source.left back) (source.ended back)
    (sink.written back) in
    let visit = session-visit c.serve_session.result (g.H.Shelf.alone c.args.shelf.now) start now seen begin
    (source.read_faults back) (sink.write_faults back) low (record { left = refl; written = refl })
    c.serve_session.ensures.ends in
    record {
      back = client_view source sink back;
      last = visit.last;
      loads = visit.loads;
      answered = record {
        end = c.serve_session.result;
        ends = visit.is;
        reads = c.serve_session.ensures.read_count;
        writes = c.serve_session.ensures.write_count;
        completes = c.serve_session.ensures.completes;
        always_too_long = c.serve_session.ensures.always_too_long;
      };
      told = told-back (visit_of source sink) (g.D.Door.out c.args.door.now) back begin
          (g.D.Door.served c.args.door.now) (g.D.Door.served c.back.new.self) c.requires.out c.back.ensures.served;
      reached = visit.reached;
      grows = visit.grows;
      few = g.H.Shelf.few c.serve_session.new.shelf;
      counted = visit.counted;
      nobody = c.back.ensures.nobody;
      ended = c.back.ensures.ended;
      faults = c.back.ensures.count;
    }
