use Rattle.std.proofs.Common.{◌<◌, ◌∙◌, sym, subst}
use Rattle.certifier.proofs.Steps.{leaks_stop, same_leaks, same_sends, same_width, sends_stop, whole_goes, whole_takes}
use Rattle.certifier.specs.Kept.{KeptTree}
use Rattle.certifier.specs.Sums.{sum_at}
use Rattle.certifier.proofs.taking.take_whole.Goals as goal

pub returns-then-leaks_beside-clause-takes : goal.returns-then-leaks_beside-clause-takes
returns-then-leaks_beside-clause-takes c = λ told edge kept under.
    leaks_stop told edge c.args.way.line c.faulty.result
    (sym (same_leaks told.sheet.net edge c.args.way under) ∙ sym c.leaks_beside.ensures ∙ c.if-leaks_beside.true)
    under.line c.faulty.ensures

pub returns-then-not-sends-clause-takes : goal.returns-then-not-sends-clause-takes
returns-then-not-sends-clause-takes c = λ told edge kept under.
    let within = subst (λ (t : KeptTree). c.args.way.child < t.sheet.net.routers) kept c.requires.next.child in
    sends_stop told edge c.args.way.line c.faulty-then-not-sends.result
    (sym (same_leaks told.sheet.net edge c.args.way under) ∙ sym c.leaks_beside.ensures ∙ c.if-leaks_beside.false)
    (sym (same_sends told.sheet.net edge c.args.way under within c.sends.ensures.small) ∙ sym c.sends.ensures.value
    ∙ c.if-not-sends.true) under.line c.faulty-then-not-sends.ensures

pub returns-clause-takes : goal.returns-clause-takes
returns-clause-takes c = λ told edge kept under.
    let within = subst (λ (t : KeptTree). c.args.way.child < t.sheet.net.routers) kept c.requires.next.child in
    let sent = sym c.sends.ensures.value ∙ c.if-not-sends.false in
    whole_takes told edge c.add.new.self
    (sym (same_leaks told.sheet.net edge c.args.way under) ∙ sym c.leaks_beside.ensures ∙ c.if-leaks_beside.false)
    (sym (same_sends told.sheet.net edge c.args.way under within c.sends.ensures.small) ∙ sent)
    (c.add.ensures ∙ whole_goes told edge c.args.tree c.args.way kept under c.requires.next.is_child
    (same_width (sum_at c.args.way.sums.sums c.args.way.child) c.args.way.width edge.width c.sends.ensures.small
    under.width sent))
