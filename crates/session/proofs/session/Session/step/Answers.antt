use Rattle.std.proofs.Common.{◌<◌, Bool, sym, ap, ◌∙◌, subst}
use Rattle.line_reader.specs.Buffered.{Buffered}
use Rattle.line_reader.specs.declared.reader.TheConstants.{MOST_BYTES}
use Rattle.session.proofs.Machining.{fault_stops, late_stops, spent_stops}
use Rattle.session.specs.Points.{IsIdle, Work}
use Rattle.certifier.specs.Blocks.{Carried}
use Rattle.session.specs.Shelved.{shelved}
use Rattle.session.specs.Steps.{IsMet, here_at}
use Rattle.session.specs.Turns.{Kept, TurnGoes, Went}
use Rattle.session.specs.declared.desk.Asked.{Asked}
use Rattle.session.proofs.session.Session.step.Goals as goal

pub returns-then-is_spent-clause-goes : goal.returns-then-is_spent-clause-goes
returns-then-is_spent-clause-goes g c = λ from gone.
    let shelf = shelved g.H.Shelf c.next_line.new.shelf in
    let wire = g.P.LazyPeer.wire c.args.peer.now in
    let alone = g.H.Shelf.alone c.args.shelf.now in
    let w = c.if-next_line.ensures.goes from wire gone in
    let idle = c.next_line.ensures.idle c.if-next_line.false in
    spent_stops alone from (here_at shelf wire c.next_line.new.self) idle (c.next_line.ensures.on c.if-next_line.false)
    (ap (λ (k : Kept). k.reader.taken) (sym c.self-2.view_is) ∙ c.is_spent.ensures.spent c.if-is_spent.true) w

pub returns-in-Bytes-clause-goes : goal.returns-in-Bytes-clause-goes
returns-in-Bytes-clause-goes g c = λ from gone.
    let shelf = shelved g.H.Shelf c.next_line.new.shelf in
    let wire = g.P.LazyPeer.wire c.args.peer.now in
    let alone = g.H.Shelf.alone c.args.shelf.now in
    let w = c.if-next_line.ensures.goes from wire gone in
    c.in-Bytes.ensures.goes alone shelf from (g.H.Shelf.few c.next_line.new.shelf) w

pub returns-in-End-clause-goes : goal.returns-in-End-clause-goes
returns-in-End-clause-goes g c = λ from gone.
    let shelf = shelved g.H.Shelf c.next_line.new.shelf in
    let wire = g.P.LazyPeer.wire c.args.peer.now in
    let alone = g.H.Shelf.alone c.args.shelf.now in
    let w = c.if-next_line.ensures.goes from wire gone in
    let met = c.in-End.ensures.goes alone shelf from (g.H.Shelf.few c.next_line.new.shelf) w in
    let here = here_at shelf (g.P.LazyPeer.wire c.read.new.peer) c.read.new.self in
    let here2 = here_at (shelved g.H.Shelf c.finish.new.shelf) (g.P.LazyPeer.wire c.finish.new.peer)
    c.finish.new.self in
    subst (λ (a : Bool). Went IsMet a from here → TurnGoes c.finish.result a from here2) c.next_line.ensures.alone
    (c.finish.ensures.goes from) met

pub returns-in-NotYet-clause-goes : goal.returns-in-NotYet-clause-goes
returns-in-NotYet-clause-goes g c = λ from gone.
    let shelf = shelved g.H.Shelf c.next_line.new.shelf in
    let wire = g.P.LazyPeer.wire c.args.peer.now in
    let alone = g.H.Shelf.alone c.args.shelf.now in
    let w = c.if-next_line.ensures.goes from wire gone in
    let idle = c.next_line.ensures.idle c.if-next_line.false in
    let idle2 = subst (λ (v : Work Asked Carried). IsIdle v) (sym c.in-NotYet.ensures.work) idle in
    let on = c.in-NotYet.ensures.over ∙ c.next_line.ensures.on c.if-next_line.false in
    let more = subst (λ (r : Buffered). r.taken < MOST_BYTES) (sym (c.in-NotYet.ensures.still (λ count e. absurd (cc))))
    (subst (λ (k : Kept). k.reader.taken < MOST_BYTES) c.self-2.view_is
    (c.is_spent.ensures.not_spent c.if-is_spent.false)) in
    late_stops alone from (here_at shelf (g.P.LazyPeer.wire c.read.new.peer) c.read.new.self) idle2 on more
    (c.in-NotYet.ensures.goes alone shelf from (g.H.Shelf.few c.next_line.new.shelf) w)

pub returns-in-Failed-clause-goes : goal.returns-in-Failed-clause-goes
returns-in-Failed-clause-goes g c = λ from gone.
    let shelf = shelved g.H.Shelf c.next_line.new.shelf in
    let wire = g.P.LazyPeer.wire c.args.peer.now in
    let alone = g.H.Shelf.alone c.args.shelf.now in
    let w = c.if-next_line.ensures.goes from wire gone in
    let idle = c.next_line.ensures.idle c.if-next_line.false in
    let idle2 = subst (λ (v : Work Asked Carried). IsIdle v) (sym c.in-Failed.ensures.work) idle in
    let on = c.in-Failed.ensures.over ∙ c.next_line.ensures.on c.if-next_line.false in
    let more = subst (λ (r : Buffered). r.taken < MOST_BYTES) (sym (c.in-Failed.ensures.still (λ count e. absurd (cc))))
    (subst (λ (k : Kept). k.reader.taken < MOST_BYTES) c.self-2.view_is
    (c.is_spent.ensures.not_spent c.if-is_spent.false)) in
    fault_stops alone from (here_at shelf (g.P.LazyPeer.wire c.read.new.peer) c.read.new.self) idle2 on more
    (c.in-Failed.ensures.goes alone shelf from (g.H.Shelf.few c.next_line.new.shelf) w)
