use Rattle.std.proofs.Common.{refl, sym, ◌∙◌, arith, subst}
use Rattle.certifier.proofs.Deciding.{came_goes, end_met, fault_judges, line_goes, spent_judges}
use Rattle.wires.specs.Causes.{CountsOne}
use Rattle.certifier.proofs.checker.Checker.step.Goals as goal

pub returns-then-next_line-clause-goes : goal.returns-then-next_line-clause-goes
returns-then-next_line-clause-goes g c = λ start w.
    line_goes start (g.P.LazyPeer.wire c.args.peer.now) c.args.self.now c.take.new.self c.next_line.new.self
    c.take.result
    (record {
      takes = c.take.ensures.takes;
      seen = c.take.ensures.seen;
      same = c.take.ensures.reader;
      taken = c.next_line.ensures.taken;
      most = c.requires.sound.most;
    })
    w (rw c.if-next_line.true at c.next_line.ensures.tells)

pub returns-then-next_line-clause-read_count : goal.returns-then-next_line-clause-read_count
returns-then-next_line-clause-read_count g c =
    let count = (g.P.LazyPeer.counts c.args.peer.now).read_faults in
    subst (CountsOne count count) (sym c.take.ensures.no_read)
    (record { later = omega arith; still = refl; failed = tt })

pub returns-then-is_spent-clause-goes : goal.returns-then-is_spent-clause-goes
returns-then-is_spent-clause-goes g c = λ start w.
    spent_judges start (g.P.LazyPeer.wire c.args.peer.now) c.args.self.now c.next_line.new.self w
    (rw c.if-next_line.false at c.next_line.ensures.tells)
    (sym c.next_line.ensures.taken ∙ c.is_spent.ensures.spent c.if-is_spent.true)

pub returns-in-Bytes-clause-goes : goal.returns-in-Bytes-clause-goes
returns-in-Bytes-clause-goes g c = λ start w.
    came_goes start (g.P.LazyPeer.wire c.args.peer.now) (g.P.LazyPeer.wire c.read_now.new.peer) c.args.self.now
    c.next_line.new.self c.read_now.new.self c.in-Bytes.field-0 w
    (record {
      reads = c.in-Bytes.ensures.reads;
      parts = rw c.if-next_line.false at c.next_line.ensures.tells;
      empty = c.next_line.ensures.empty c.if-next_line.false;
      taken = c.next_line.ensures.taken;
      less = c.is_spent.ensures.not_spent c.if-is_spent.false;
    })

pub returns-in-End-clause-goes : goal.returns-in-End-clause-goes
returns-in-End-clause-goes g c = λ start w.
    let met = end_met start (g.P.LazyPeer.wire c.args.peer.now) (g.P.LazyPeer.wire c.read_now.new.peer)
    c.args.self.now c.next_line.new.self c.read_now.new.self w
    (record {
      reads = c.in-End.ensures.reads;
      parts = rw c.if-next_line.false at c.next_line.ensures.tells;
      empty = c.next_line.ensures.empty c.if-next_line.false;
      taken = c.next_line.ensures.taken;
      less = c.is_spent.ensures.not_spent c.if-is_spent.false;
    }) in
    c.finish.ensures.judges start (g.P.LazyPeer.wire c.read_now.new.peer) met.gone met.ended met.none

pub returns-in-End-clause-read_count : goal.returns-in-End-clause-read_count
returns-in-End-clause-read_count g c =
    subst (CountsOne (g.P.LazyPeer.counts c.args.peer.now).read_faults
    (g.P.LazyPeer.counts c.read_now.new.peer).read_faults) (sym c.finish.ensures.no_read) c.in-End.ensures.counts.cause

pub returns-in-Failed-clause-goes : goal.returns-in-Failed-clause-goes
returns-in-Failed-clause-goes g c = λ start w.
    fault_judges start (g.P.LazyPeer.wire c.args.peer.now) (g.P.LazyPeer.wire c.read_now.new.peer) c.args.self.now
    c.next_line.new.self c.read_now.new.self w
    (record {
      reads = c.in-Failed.ensures.reads;
      parts = rw c.if-next_line.false at c.next_line.ensures.tells;
      empty = c.next_line.ensures.empty c.if-next_line.false;
      taken = c.next_line.ensures.taken;
      less = c.is_spent.ensures.not_spent c.if-is_spent.false;
    })
