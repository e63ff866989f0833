use Rattle.cut_model.proofs.Terminals.{root_terminal}
use Rattle.tree_state.proofs.CutTrees.{complete_cut_tree}
use Rattle.tree_state.proofs.laws.complete_history_is_a_cut_tree.Goals as goal

pub returns : goal.returns
returns c = λ net limits history complete. complete_cut_tree net (root_terminal net limits) history complete
