use Rattle.std.proofs.Common.{◌≡◌, ◌<◌, [], sym, subst}
use Rattle.line_reader.specs.declared.reader.TheConstants.{MOST_BYTES}
use Rattle.session.proofs.Machining.{read_goes}
use Rattle.session.specs.Steps.{IsPart, here_at}
use Rattle.session.specs.Turns.{Kept, Went}
use Rattle.session.proofs.session.Session.read.Goals as goal

pub returns-clause-goes : goal.returns-clause-goes
returns-clause-goes g c = λ alone shelf from few w.
    read_goes alone from shelf (g.P.LazyPeer.wire c.args.peer.now) (g.P.LazyPeer.wire c.read_now.new.peer) _ few
    (subst (λ (k : Kept). Went IsPart alone from (here_at shelf (g.P.LazyPeer.wire c.args.peer.now) k))
    (sym c.self.view_is) w) c.read_now.new.self
    (subst (λ (k : Kept). k.reader.taken < MOST_BYTES) (sym c.self.view_is) c.requires.budget)
    (subst (λ (k : Kept). k.reader.bytes ≡ []) (sym c.self.view_is) c.requires.empty) c.read_now.result
    c.read_now.ensures.reads
