use Rattle.std.proofs.Common.{sym, subst}
use Rattle.session.proofs.Machining.{closed_stops, put_may, put_on, put_stops}
use Rattle.session.specs.Shelved.{shelved}
use Rattle.session.specs.Steps.{IsClosed, here_at, with_work}
use Rattle.session.specs.Turns.{Kept, StopsBy, TurnGoes, Went, point_at}
use Rattle.session.specs.declared.session.SessionEnd.TheVariants.{Done}
use Rattle.session.specs.declared.session.Turn.TheVariants.{Ended}
use Rattle.session.proofs.session.Session.finish.Goals as goal

pub returns-in-Some-clause-goes : goal.returns-in-Some-clause-goes
returns-in-Some-clause-goes g c = λ from met.
    let shelf = shelved g.H.Shelf c.end_input.new.shelf in
    let wire = g.P.LazyPeer.wire c.args.peer.now in
    let wire2 = g.P.LazyPeer.wire c.write_out.new.peer in
    let kept = c.end_input.new.self in
    let alone = g.H.Shelf.alone c.args.shelf.now in
    let w = c.end_input.ensures.goes from wire met in
    subst (λ (k : Kept). TurnGoes c.in-Some.turn alone from (here_at shelf wire2 k)) (sym c.in-Some.ensures.kept)
    (put_stops IsClosed alone from (here_at shelf wire kept)
    (here_at shelf wire2 (with_work kept c.write_out.new.self.work)) w
    (put_may shelf wire wire2 kept c.write_out.new.self.work w.open_text w.bytes c.in-Some.ensures.ended w.may)
    c.in-Some.turn c.in-Some.ensures.stops
    (c.in-Some.ensures.goes alone (point_at (here_at shelf wire kept) w.open_text w.bytes).rest))

pub returns-in-None-clause-goes : goal.returns-in-None-clause-goes
returns-in-None-clause-goes g c = λ from met.
    let shelf = shelved g.H.Shelf c.end_input.new.shelf in
    let wire = g.P.LazyPeer.wire c.args.peer.now in
    let wire2 = g.P.LazyPeer.wire c.write_out.new.peer in
    let kept = c.end_input.new.self in
    let work = c.write_out.new.self.work in
    let alone = g.H.Shelf.alone c.args.shelf.now in
    let w = c.end_input.ensures.goes from wire met in
    subst (λ (k : Kept). Went (StopsBy (Ended Done)) alone from (here_at shelf wire2 k)) (sym c.in-None.ensures.kept)
    (closed_stops alone from (here_at shelf wire2 (with_work kept work)) c.in-None.ensures.stops
    (put_on IsClosed alone from (here_at shelf wire kept) w (here_at shelf wire2 (with_work kept work)) IsClosed
    (put_may shelf wire wire2 kept work w.open_text w.bytes c.in-None.ensures.ended w.may)
    (c.in-None.ensures.goes alone (point_at (here_at shelf wire kept) w.open_text w.bytes).rest)
    (record {
      met = rw (c.in-None.ensures.ended, c.in-None.ensures.left) w.why.met;
      closed = w.why.closed;
    })))
