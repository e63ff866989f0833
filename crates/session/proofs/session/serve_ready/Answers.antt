use Rattle.std.proofs.Common.{◌≤◌, [], None, refl, ap, arith, subst}
use Rattle.line_reader.specs.Buffered.{Buffered}
use Rattle.line_reader.specs.declared.reader.TheConstants.{MOST_BYTES}
use Rattle.session.proofs.Deciding.{always_long}
use Rattle.session.proofs.Ending.{turn_ends}
use Rattle.session.proofs.Machining.{same_rest}
use Rattle.session.specs.Sessions.{moment}
use Rattle.session.specs.Shelved.{shelved}
use Rattle.session.specs.Steps.{here_at}
use Rattle.session.specs.Turns.{Kept, point_at}
use Rattle.session.proofs.session.serve_ready.Goals as goal

pub returns-clause-ends : goal.returns-clause-ends
returns-clause-ends g c =
    let anew = c.requires.anew in
    let old = here_at (shelved g.H.Shelf c.args.shelf.now) (g.P.LazyPeer.wire c.args.peer.now) c.args.session.now in
    let none = ap (λ (r : Buffered). r.taken) anew.reader in
    turn_ends c.in-Ended.end (g.H.Shelf.alone c.args.shelf.now) (point_at old None [])
    (here_at (shelved g.H.Shelf c.turn-turn.new.shelf) (g.P.LazyPeer.wire c.turn-turn.new.peer) c.turn-turn.new.self)
    (record {
      fresh = record { idle = anew.idle; rest = same_rest _ _ none anew.on refl refl };
      few = g.H.Shelf.few c.args.shelf.now;
      most = subst (λ (k : Kept). k.reader.taken ≤ MOST_BYTES) c.session.view_is c.session.invariant.1;
      held = c.in-Ended.ensures.held;
    })
    (c.in-Ended.ensures.goes None [] (record {
      text = λ e. anew.between;
      rest = anew.holds;
      unmet = λ e. absurd (omega (arith, e, none));
    }))

pub returns-clause-always_too_long : goal.returns-clause-always_too_long
returns-clause-always_too_long g c = λ taken rest before after many unmet quiet sound.
    always_long c.in-Ended.end (g.H.Shelf.alone c.args.shelf.now)
    (moment (shelved g.H.Shelf c.args.shelf.now) (g.P.LazyPeer.wire c.args.peer.now))
    (moment (shelved g.H.Shelf c.turn-turn.new.shelf) (g.P.LazyPeer.wire c.turn-turn.new.peer))
    (returns-clause-ends g c)
    (record {
      taken = taken;
      rest = rest;
      before = before;
      after = after;
      many = many;
      unmet = unmet;
      quiet = quiet;
    }) sound
