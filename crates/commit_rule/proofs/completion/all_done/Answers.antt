use Rattle.std.proofs.Common.{◌≡◌, ◌∙◌, ap, subst, arith}
use Rattle.cut_model.specs.Net.{Net, IsInLimits}
use Rattle.cut_model.proofs.Terminals.{root_terminal, terminal-lt}
use Rattle.tree_state.proofs.CutTrees.{complete_cut_tree}
use Rattle.commit_rule.proofs.completion.all_done.Goals as goal

pub returns-clause-done : goal.returns-clause-done
returns-clause-done c =
    let routers : c.routers-router-end.result ≡ c.args.grow.now.net.routers =
    c.routers-router-end.ensures.value
    ∙ ap (λ (net : Net). net.routers) (c.deref.ensures ∙ c.net.ensures.value) in
    λ _. record {
      legal = c.net.ensures.legal;
      all = λ r terminal not_root. c.loop-router.invariant r
          (omega (arith, terminal-lt c.args.grow.now.net r terminal)) terminal not_root;
    }

pub returns-clause-tree : goal.returns-clause-tree
returns-clause-tree c =
    let limits : IsInLimits c.args.grow.now.net =
    subst IsInLimits (c.deref.ensures ∙ c.net.ensures.value)
    c.routers-router-end.ensures.limits in
    λ done. complete_cut_tree c.args.grow.now.net (root_terminal c.args.grow.now.net limits) c.args.grow.now.history
    (returns-clause-done c done)
