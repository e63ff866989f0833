use Rattle.tree_state.proofs.LeastEdges.{least_edge_cut, path_least_edge}
use Rattle.tree_state.proofs.laws.least_edge_of_a_path_is_a_least_cut.Goals as goal

pub returns-clause-some : goal.returns-clause-some
returns-clause-some c = path_least_edge

pub returns-clause-least : goal.returns-clause-least
returns-clause-least c = least_edge_cut
