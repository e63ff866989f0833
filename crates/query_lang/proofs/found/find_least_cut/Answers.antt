use Rattle.std.proofs.Common.{◌<◌, ◌∙◌, ap, arith, subst, sym}
use Rattle.cut_model.specs.Net.{Net, IsInLimits}
use Rattle.cut_model.proofs.Terminals.{terminal-lt}
use Rattle.query_lang.proofs.CutReports.{cut_report}
use Rattle.query_lang.proofs.found.find_least_cut.Goals as goal

pub prove-unreachable-requires : goal.prove-unreachable-requires
prove-unreachable-requires c =
    let net = c.args.subject.now.sheet.now.net in
    let routers = ap (λ (n : Net). n.routers) (c.deref.ensures ∙ c.net.ensures.value) in
    let a_low = terminal-lt net c.args.a c.requires.1 in
    let b_low = terminal-lt net c.args.b c.requires.2 in
    absurd (omega (arith, routers, a_low, b_low, c.max.ensures, c.if-prove.true))

pub returns-clause-report : goal.returns-clause-report
returns-clause-report c = λ version.
    let sheet = c.args.subject.now.sheet.now in
    let tree = c.args.subject.now.finished.now.tree in
    let limits = subst IsInLimits (sym c.args.subject.now.same) c.net.ensures.sheet.limits in
    let routers = ap (λ (n : Net). n.routers) c.args.subject.now.same in
    let a_low = terminal-lt sheet.net c.args.a c.requires.1 in
    let b_low = terminal-lt sheet.net c.args.b c.requires.2 in
    let least = c.least_on_path_uncounted-least in
    let a_in : c.args.a < tree.net.routers = omega (arith, routers, a_low) in
    let b_in : c.args.b < tree.net.routers = omega (arith, routers, b_low) in
    cut_report version sheet tree c.args.a c.args.b least.result.child least.result.width c.side_by_ladder-side.result
    limits a_in b_in least.ensures.edge least.ensures.width least.ensures.least c.side_by_ladder-side.ensures
