use Rattle.std.proofs.Common.{Bool, refl, sym, ◌∙◌, subst}
use Rattle.session.proofs.Machining.{gone_none, put_may, put_on, put_stops}
use Rattle.session.specs.Shelved.{shelved}
use Rattle.session.specs.Steps.{Gone, here_at, with_work}
use Rattle.session.specs.Turns.{Kept, TurnGoes, point_at}
use Rattle.session.proofs.session.Session.turn.Goals as goal

pub steps-init : goal.steps-init
steps-init g c = record {
  on = λ open_text bytes may. gone_none (g.H.Shelf.alone c.args.shelf.now)
      (here_at (shelved g.H.Shelf c.args.shelf.now) (g.P.LazyPeer.wire c.args.peer.now) c.args.self.now) open_text bytes
      (g.H.Shelf.few c.args.shelf.now) may;
  held = c.requires.held;
  counts = refl;
  alone = refl;
  beside = refl;
}

pub returns-in-Some-clause-goes : goal.returns-in-Some-clause-goes
returns-in-Some-clause-goes g c = λ open_text bytes may.
    let shelf = shelved g.H.Shelf c.steps.shelf in
    let wire = g.P.LazyPeer.wire c.steps.peer in
    let wire2 = g.P.LazyPeer.wire c.write_out.new.peer in
    let kept = c.steps.self in
    let work = c.write_out.new.self.work in
    let alone = g.H.Shelf.alone c.args.shelf.now in
    let from = point_at (here_at (shelved g.H.Shelf c.args.shelf.now) (g.P.LazyPeer.wire c.args.peer.now)
    c.args.self.now) open_text bytes in
    let w = c.steps.invariant.on open_text bytes may in
    subst (λ (k : Kept). TurnGoes c.in-Some.turn alone from (here_at shelf wire2 k)) (sym c.in-Some.ensures.kept)
    (put_stops (λ _. Unit {0}) alone from (here_at shelf wire kept) (here_at shelf wire2 (with_work kept work)) w
    (put_may shelf wire wire2 kept work w.open_text w.bytes c.in-Some.ensures.ended w.may) c.in-Some.turn
    c.in-Some.ensures.stops
    (c.in-Some.ensures.goes alone (point_at (here_at shelf wire kept) w.open_text w.bytes).rest))

pub returns-in-Some-step-clause-goes : goal.returns-in-Some-step-clause-goes
returns-in-Some-step-clause-goes g c = λ open_text bytes may.
    let shelf = shelved g.H.Shelf c.steps.shelf in
    let wire = g.P.LazyPeer.wire c.steps.peer in
    let wire2 = g.P.LazyPeer.wire c.write_out.new.peer in
    let kept = c.steps.self in
    let work = c.write_out.new.self.work in
    let alone = g.H.Shelf.alone c.args.shelf.now in
    let from = point_at (here_at (shelved g.H.Shelf c.args.shelf.now) (g.P.LazyPeer.wire c.args.peer.now)
    c.args.self.now) open_text bytes in
    let w = c.steps.invariant.on open_text bytes may in
    let here = here_at shelf wire2 c.write_out.new.self in
    let here2 = here_at (shelved g.H.Shelf c.step.new.shelf) (g.P.LazyPeer.wire c.step.new.peer) c.step.new.self in
    let gone = subst (λ (k : Kept). Gone alone from (here_at shelf wire2 k)) (sym c.in_default.ensures.kept)
    (put_on (λ _. Unit {0}) alone from (here_at shelf wire kept) w (here_at shelf wire2 (with_work kept work))
    (λ _. Unit {0}) (put_may shelf wire wire2 kept work w.open_text w.bytes c.in_default.ensures.ended w.may)
    (c.in_default.ensures.goes alone (point_at (here_at shelf wire kept) w.open_text w.bytes).rest) tt) in
    subst (λ (a : Bool). Gone a from here → TurnGoes c.in-Some-step.turn a from here2) c.steps.invariant.alone
    (c.in-Some-step.ensures.goes from) gone

pub steps-preserved : goal.steps-preserved
steps-preserved g c = record {
  on = λ open_text bytes may.
      let shelf = shelved g.H.Shelf c.steps.shelf in
      let wire = g.P.LazyPeer.wire c.steps.peer in
      let wire2 = g.P.LazyPeer.wire c.write_out.new.peer in
      let kept = c.steps.self in
      let work = c.write_out.new.self.work in
      let alone = g.H.Shelf.alone c.args.shelf.now in
      let from = point_at (here_at (shelved g.H.Shelf c.args.shelf.now) (g.P.LazyPeer.wire c.args.peer.now)
      c.args.self.now) open_text bytes in
      let w = c.steps.invariant.on open_text bytes may in
      let here = here_at shelf wire2 c.write_out.new.self in
      let here2 = here_at (shelved g.H.Shelf c.step.new.shelf) (g.P.LazyPeer.wire c.step.new.peer) c.step.new.self in
      let gone = subst (λ (k : Kept). Gone alone from (here_at shelf wire2 k)) (sym c.in_default.ensures.kept)
      (put_on (λ _. Unit {0}) alone from (here_at shelf wire kept) w (here_at shelf wire2 (with_work kept work))
      (λ _. Unit {0}) (put_may shelf wire wire2 kept work w.open_text w.bytes c.in_default.ensures.ended w.may)
      (c.in_default.ensures.goes alone (point_at (here_at shelf wire kept) w.open_text w.bytes).rest) tt) in
      subst (λ (a : Bool). Gone a from here → Gone a from here2) c.steps.invariant.alone
      (c.in_default-step.ensures.goes from) gone;
  held = c.in_default-step.ensures.held;
  counts = c.in_default-step.ensures.counts ∙ c.in_default.ensures.counts ∙ c.steps.invariant.counts;
  alone = c.in_default-step.ensures.alone ∙ c.steps.invariant.alone;
  beside = c.in_default-step.ensures.beside ∙ c.in_default.ensures.beside ∙ c.steps.invariant.beside;
}
