use Rattle.std.proofs.Common.{subst, ◌∙◌, arith}
use Rattle.cut_model.specs.Net.{IsInLimits}
use Rattle.cut_model.proofs.Terminals.{all_terminals}
use Rattle.made_networks.proofs.Pairs.{least_cut-lambda, least_cut-most}
use Rattle.made_networks.proofs.summary.value_from_first.Goals as goal

pub least_on_path_uncounted-requires-clause-a : goal.least_on_path_uncounted-requires-clause-a
least_on_path_uncounted-requires-clause-a c = all_terminals c.args.finished.now.tree.net 0 (omega arith)

pub least_on_path_uncounted-requires-clause-b : goal.least_on_path_uncounted-requires-clause-b
least_on_path_uncounted-requires-clause-b c =
    all_terminals c.args.finished.now.tree.net c.args.router c.requires.within

pub returns-clause-value : goal.returns-clause-value
returns-clause-value c =
    let limits = subst IsInLimits (c.deref.ensures ∙ c.net.ensures.value) c.routers.ensures.limits in
    let least = c.least_on_path_uncounted in
    least_cut-lambda c.args.finished.now.tree.net limits 0 c.args.router (λ same. omega arith) _ least.result.width
    least.ensures.least

pub returns-clause-most : goal.returns-clause-most
returns-clause-most c =
    let limits = subst IsInLimits (c.deref.ensures ∙ c.net.ensures.value) c.routers.ensures.limits in
    let least = c.least_on_path_uncounted in
    least_cut-most c.args.finished.now.tree.net limits 0 c.args.router _ least.result.width least.ensures.least
