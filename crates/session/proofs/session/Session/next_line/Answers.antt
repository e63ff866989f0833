use Rattle.std.proofs.Common.{Bool, refl, sym, ap, ◌∙◌, subst}
use Rattle.session.proofs.Machining.{began, next_taken, parted}
use Rattle.session.specs.Points.{IsIdle}
use Rattle.session.specs.Shelved.{shelved}
use Rattle.session.specs.Steps.{Gone, NextGoes, here_at}
use Rattle.session.specs.Turns.{Kept}
use Rattle.session.proofs.session.Session.next_line.Goals as goal

pub returns-then-some-clause-goes : goal.returns-then-some-clause-goes
returns-then-some-clause-goes g c = λ from wire gone.
    let w = subst (λ (k : Kept). Gone (g.H.Shelf.alone c.args.shelf.now) from
    (here_at (shelved g.H.Shelf c.args.shelf.now) wire k)) (sym c.self.view_is) gone in
    let on = ap (λ (k : Kept). k.over) c.self.view_is ∙ c.requires.on in
    let idle = subst (λ (k : Kept). IsIdle k.work) (sym c.self.view_is) c.requires.idle in
    let b = next_taken (g.H.Shelf.alone c.args.shelf.now) _ _ w.open_text w.bytes c.line.result.now w.may refl
    c.take_line-self-inside.result (record { on = on; over = refl; count = c.if-some.ensures.taken })
    (c.if-some.ensures.tells w.bytes w.may.rest) c.line.ensures.bytes
    (c.take_line-self-inside.ensures.taken w.open_text (w.may.text on)) in
    subst (λ (x : Bool). NextGoes x (g.H.Shelf.alone c.args.shelf.now) from
    (here_at (shelved g.H.Shelf c.take_line-self-inside.new.shelf) wire (record {
      intake = c.take_line-self-inside.new.self.intake;
      reader = c.next_line-some.new.self;
      over = c.take_line-self-inside.result;
      work = c.take_line-self-inside.new.self.desk;
    }))) (sym c.if-some.true) (began (λ _. Unit {0}) _ from _ w _ idle b (λ _. Unit {0}) tt)

pub returns-else-some-clause-goes : goal.returns-else-some-clause-goes
returns-else-some-clause-goes g c = λ from wire gone.
    let w = subst (λ (k : Kept). Gone (g.H.Shelf.alone c.args.shelf.now) from
    (here_at (shelved g.H.Shelf c.args.shelf.now) wire k)) (sym c.self.view_is) gone in
    subst (λ (x : Bool). NextGoes x (g.H.Shelf.alone c.args.shelf.now) from
    (here_at (shelved g.H.Shelf c.args.shelf.now) wire (record {
      intake = c.self.inside.state.intake;
      reader = c.next_line-some.new.self;
      over = c.self.inside.over;
      work = c.self.inside.state.desk;
    }))) (sym c.if-some.false)
    (parted _ from _ wire _ c.next_line-some.new.self w c.if-some.ensures.taken
    (c.if-some.ensures.tells w.bytes w.may.rest))
