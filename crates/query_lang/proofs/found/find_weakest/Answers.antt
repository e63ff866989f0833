use Rattle.std.proofs.Common.{subst, sym}
use Rattle.cut_model.specs.Net.{IsInLimits}
use Rattle.query_lang.proofs.CutReports.{weakest_report}
use Rattle.query_lang.proofs.found.find_weakest.Goals as goal

pub returns-clause-report : goal.returns-clause-report
returns-clause-report c = λ version.
    let limits = subst IsInLimits (sym c.args.subject.now.same) c.net.ensures.sheet.limits in
    let cut = c.in-Some.cut in
    weakest_report version c.args.subject.now.sheet.now c.args.subject.now.finished.now.tree cut.edge.child
    cut.edge.width cut.side limits c.in-Some.ensures.edge c.in-Some.ensures.width c.in-Some.ensures.least
    c.in-Some.ensures.side
