use Rattle.cut_model.proofs.Terminals.{root-lt}
use Rattle.tree_state.proofs.HalfBuilt.{half_built}
use Rattle.tree_state.proofs.laws.legal_history_builds_half_a_tree.Goals as goal

pub returns : goal.returns
returns c = λ net limits history legal. half_built net (root-lt net limits) history legal
