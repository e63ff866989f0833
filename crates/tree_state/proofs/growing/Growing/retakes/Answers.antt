use Rattle.std.proofs.Common.{◌≤◌, subst}
use Rattle.std.specs.Arc.{arc_value}
use Rattle.std.specs.Prelude.{slice_index}
use Rattle.cut_model.specs.Terminals.{is_terminal, terminal_count}
use Rattle.tree_state.specs.Moves.{sum_over, most_moves}
use Rattle.tree_state.specs.Views.{GrowingView}
use Rattle.tree_state.proofs.FewMoves.{counts-few}
use Rattle.tree_state.proofs.growing.Growing.retakes.Goals as goal

pub returns-clause-sum : goal.returns-clause-sum
returns-clause-sum c =
    subst (λ (v : GrowingView). sum_over (is_terminal v.net) (slice_index v.retakes) v.net.routers
    ≤ most_moves (terminal_count v.net)) c.self.view_is
    (counts-few (arc_value c.self.inside.net) c.self.invariant.1.limits c.self.inside.history.items
    c.self.invariant.0.legal (slice_index c.self.inside.retakes.items) c.self.invariant.2.most)
