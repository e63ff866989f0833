use Rattle.std.proofs.Common.{refl}
use Rattle.session.proofs.Loading.{ended_taken, more_taken, read_more}
use Rattle.session.proofs.state.State.take_text.Goals as goal

pub returns-in-More-clause-taken : goal.returns-in-More-clause-taken
returns-in-More-clause-taken g c = λ text read.
    more_taken text _ c.args.line.now (g.H.Shelf.few c.args.shelf.now) c.requires.idle
    (c.in-More.ensures.more refl).0
    (read_more _ _ text c.args.line.now read (c.in-More.ensures.taken refl))

pub returns-in-Ended-clause-taken : goal.returns-in-Ended-clause-taken
returns-in-Ended-clause-taken g c = λ text read.
    ended_taken text c.args.line.now (c.in-Ended.ensures.ended refl).0 (record {
      none = c.end_text.ensures.whole;
      loads = rw (c.in-Ended.ensures.ended refl).1 at c.end_text.ensures.loads text read;
    })
