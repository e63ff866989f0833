use Rattle.tree_state.proofs.FewMoves.{moves-few}
use Rattle.tree_state.proofs.laws.legal_history_makes_few_moves.Goals as goal

pub returns : goal.returns
returns c = moves-few
