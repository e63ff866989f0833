use Rattle.std.proofs.Common.{◌≡◌, ap, ◌∙◌, subst, sym, rules}
use Rattle.cut_model.specs.Net.{Net}
use Rattle.cut_model.specs.Terminals.{IsTerminal, root_of}
use Rattle.cut_model.proofs.Terminals.{terminal-lt}
use Rattle.worker_gate.proofs.finish.commit_all.Goals as goal

pub returns-clause-all : goal.returns-clause-all
returns-clause-all c = λ router terminal not_root.
    let same : c.loop-router.grow.net ≡ c.args.net.now = c.loop-router.invariant.1 in
    let there : IsTerminal c.args.net.now router = subst (λ (net : Net). IsTerminal net router) same terminal in
    c.loop-router.invariant.2.done router (search (rules, terminal-lt c.args.net.now router there)) there
    (λ is. not_root (is ∙ ap root_of (sym same)))
