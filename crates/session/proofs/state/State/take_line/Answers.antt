use Rattle.std.proofs.Common.{ℕ, List, sym, subst}
use Rattle.std.specs.declared.option.Option.{Option}
use Rattle.session.specs.Shelved.{shelved}
use Rattle.session.specs.Taking.{HasOpen, LineTaken}
use Rattle.session.specs.declared.intake.Intake.{Intake}
use Rattle.session.proofs.Loading.{text_open, lost_open}
use Rattle.session.proofs.state.State.take_line.Goals as goal

pub returns-in-Text-clause-taken : goal.returns-in-Text-clause-taken
returns-in-Text-clause-taken g c = λ open_text h.
    text_open
    (λ (m : Option (List (List ℕ))). LineTaken c.take_text.result (g.H.Shelf.alone c.args.shelf.now)
    (shelved g.H.Shelf c.args.shelf.now) (shelved g.H.Shelf c.take_text.new.shelf) m c.take_text.new.self.intake
    c.args.line.now c.take_text.new.self.desk)
    c.in-Text.reader c.take_text.ensures.taken open_text
    (subst (λ (i : Intake). HasOpen i open_text) (sym c.in-Text.ensures.value) h)

pub returns-in-Lost-clause-taken : goal.returns-in-Lost-clause-taken
returns-in-Lost-clause-taken g c = λ open_text h.
    lost_open
    (λ (m : Option (List (List ℕ))). LineTaken c.take_lost.result (g.H.Shelf.alone c.args.shelf.now)
    (shelved g.H.Shelf c.args.shelf.now) (shelved g.H.Shelf c.take_lost.new.shelf) m c.take_lost.new.self.intake
    c.args.line.now c.take_lost.new.self.desk)
    c.take_lost.ensures.taken open_text (subst (λ (i : Intake). HasOpen i open_text) (sym c.in-Lost.ensures.value) h)
