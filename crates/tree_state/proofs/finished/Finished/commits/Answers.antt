use Rattle.std.proofs.Common.{◌≡◌, ◌+◌, subst, arith}
use Rattle.cut_model.specs.Terminals.{terminal_count}
use Rattle.tree_state.specs.Views.{FinishedView}
use Rattle.tree_state.proofs.Completed.{length-complete}
use Rattle.tree_state.proofs.finished.Finished.commits.Goals as goal

pub returns-clause-all : goal.returns-clause-all
returns-clause-all c =
    subst (λ (v : FinishedView). c.commits.result + 1 ≡ terminal_count v.tree.net) c.self.view_is
    (omega (
      arith,
      c.commits.ensures.value,
      length-complete c.self.inside.grown.net c.commits.ensures.limits c.self.inside.grown.history c.self.invariant.0,
    ))
