use Rattle.tree_state.proofs.WeakestEdges.{weakest_edge, weakest_edge_cut}
use Rattle.tree_state.proofs.laws.weakest_edge_is_a_global_cut.Goals as goal

pub returns-clause-some : goal.returns-clause-some
returns-clause-some c = weakest_edge

pub returns-clause-least : goal.returns-clause-least
returns-clause-least c = weakest_edge_cut
