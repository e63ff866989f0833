use Rattle.std.proofs.Common.{subst, ◌∙◌, refl, arith}
use Rattle.cut_model.specs.Net.{IsInLimits}
use Rattle.cut_model.proofs.Terminals.{terminal_count-all}
use Rattle.made_networks.proofs.Pairs.{global_cut-pairs}
use Rattle.made_networks.proofs.summary.least_of_pairs.Goals as goal

pub unreachable-requires : goal.unreachable-requires
unreachable-requires c =
    omega (arith, c.in_default.ensures.none.0 refl, terminal_count-all c.args.finished.now.tree.net)

pub returns : goal.returns
returns c =
    let limits = subst IsInLimits (c.deref.ensures ∙ c.net.ensures.value) c.routers.ensures.limits in
    global_cut-pairs c.args.finished.now.tree.net limits _ c.in-Some.cut.edge.width c.in-Some.ensures.least
