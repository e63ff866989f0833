use Rattle.std.proofs.Common.{◌≡◌, ◌≢◌, ℕ, ◌<◌, true}
use Rattle.cut_model.specs.Terminals.{IsTerminal, root_of}
use Rattle.tree_state.specs.History.{entered}
use Rattle.commit_rule.proofs.completion.all_done.Given as goal

-- each terminal before the router, but the root, is entered
abbrev pub invariant-loop-router : goal.invariant-loop-router
invariant-loop-router l =
    (r : ℕ) → r < l.router → IsTerminal l.grow.net r → r ≢ root_of l.grow.net → entered l.grow.history r ≡ true
