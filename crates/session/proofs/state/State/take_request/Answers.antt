use Rattle.std.proofs.Common.{None, length, sym, subst}
use Rattle.session.specs.Taking.{HasOpen}
use Rattle.session.specs.declared.intake.Intake.{Intake}
use Rattle.session.proofs.Requesting.{passed_taken, load_taken, bye_taken, refused_taken, reported_taken}
use Rattle.session.proofs.Telling.{begun_held}
use Rattle.session.proofs.state.State.take_request.Goals as goal

pub returns-in-Ok-Nothing-clause-taken : goal.returns-in-Ok-Nothing-clause-taken
returns-in-Ok-Nothing-clause-taken g c =
    passed_taken c.look-version.ensures.looks c.args.line.now c.requires.idle c.requires.between
    (rw (c.in-Ok-Nothing.field-0-is, c.sheet_of.ensures, c.seen_record-seen.ensures, c.look-version.ensures.count)
    at c.in-Ok-Nothing.ensures.value)

pub returns-in-Ok-Load-clause-taken : goal.returns-in-Ok-Load-clause-taken
returns-in-Ok-Load-clause-taken g c =
    load_taken c.look-version.ensures.looks c.args.line.now c.requires.idle c.begin_text.ensures.begun
    (rw (c.in-Ok-Load.field-0-is, c.sheet_of.ensures, c.seen_record-seen.ensures, c.look-version.ensures.count)
    at c.in-Ok-Load.ensures.value)

pub returns-in-Ok-clause-taken : goal.returns-in-Ok-clause-taken
returns-in-Ok-clause-taken g c =
    reported_taken c.look-version.ensures.looks c.args.line.now c.in-Ok.request
    (subst (λ (i : Intake). HasOpen i None) (sym c.report.ensures.intake) c.requires.between)
    (rw (c.sheet_of.ensures, c.seen_record-seen.ensures, c.look-version.ensures.count) at c.in-Ok.ensures.value)
    (rw (c.seen_record-seen.ensures, c.look-version.ensures.count) at c.report.ensures.reported)

pub returns-in-Ok-Bye-clause-taken : goal.returns-in-Ok-Bye-clause-taken
returns-in-Ok-Bye-clause-taken g c =
    bye_taken c.look-version.ensures.looks c.args.line.now
    (rw (c.in-Ok-Bye.field-0-is, c.sheet_of.ensures, c.seen_record-seen.ensures, c.look-version.ensures.count)
    at c.in-Ok-Bye.ensures.value)
    c.bye.ensures.whole (rw c.look-version.ensures.count at c.bye.ensures.run)

pub returns-in-Err-clause-taken : goal.returns-in-Err-clause-taken
returns-in-Err-clause-taken g c =
    refused_taken c.look-version.ensures.looks c.args.line.now c.in-Err.fault
    (subst (λ (i : Intake). HasOpen i None) (sym c.refuse.ensures.intake) c.requires.between)
    (rw (c.sheet_of.ensures, c.seen_record-seen.ensures, c.look-version.ensures.count) at c.in-Err.ensures.value)
    c.refuse.ensures.whole (rw (c.number.ensures, c.look-version.ensures.count) at c.refuse.ensures.reply)

pub returns-in-Ok-clause-held : goal.returns-in-Ok-clause-held
returns-in-Ok-clause-held g c =
    let seen = g.H.Shelf.seen c.look-version.new.shelf in
    begun_held seen (record { version = length seen; request = c.in-Ok.request }) c.report.new.self.desk
    (rw (c.seen_record-seen.ensures, c.look-version.ensures.count) at c.report.ensures.reported)
