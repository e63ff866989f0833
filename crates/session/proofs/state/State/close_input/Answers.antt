use Rattle.std.proofs.Common.{ℕ, List, [], false, true, sym, subst}
use Rattle.std.specs.declared.option.Option.{Option}
use Rattle.network_text.specs.Texts.{verdict_of}
use Rattle.session.specs.Shelved.{shelved}
use Rattle.session.specs.Taking.{HasOpen, Owing}
use Rattle.session.specs.declared.intake.Intake.{Intake}
use Rattle.session.proofs.Loading.{cut_owing, lost_open, still_owing, text_open, want_loads}
use Rattle.session.proofs.state.State.close_input.Goals as goal
use Rattle.text_forms.specs.Items.{items_from}

pub returns-in-Between-clause-owing : goal.returns-in-Between-clause-owing
returns-in-Between-clause-owing g c = λ open_text h.
    still_owing (g.H.Shelf.few c.args.shelf.now) c.requires.idle open_text
    (subst (λ (i : Intake). HasOpen i open_text) (sym c.in-Between.ensures.value) h)

pub returns-in-Text-clause-owing : goal.returns-in-Text-clause-owing
returns-in-Text-clause-owing g c = λ open_text h.
    text_open
    (λ (m : Option (List (List ℕ))). Owing (g.H.Shelf.alone c.args.shelf.now) (shelved g.H.Shelf c.args.shelf.now)
    (shelved g.H.Shelf c.refuse_unfinished.new.shelf) (items_from true m []) c.refuse_unfinished.new.self.desk)
    c.in-Text.reader
    (λ text read. cut_owing text c.refuse_unfinished.ensures.whole (c.refuse_unfinished.ensures.loads text read))
    open_text (subst (λ (i : Intake). HasOpen i open_text) (sym c.in-Text.ensures.value) h)

pub returns-in-Lost-clause-owing : goal.returns-in-Lost-clause-owing
returns-in-Lost-clause-owing g c = λ open_text h.
    lost_open
    (λ (m : Option (List (List ℕ))). Owing (g.H.Shelf.alone c.args.shelf.now) (shelved g.H.Shelf c.args.shelf.now)
    (shelved g.H.Shelf c.refuse_load.new.shelf) (items_from true m []) c.refuse_load.new.self.desk)
    (λ text. cut_owing text c.refuse_load.ensures.whole
    (want_loads c.refuse_load.ensures.looks (verdict_of text false) c.refuse_load.ensures.reply))
    open_text (subst (λ (i : Intake). HasOpen i open_text) (sym c.in-Lost.ensures.value) h)
