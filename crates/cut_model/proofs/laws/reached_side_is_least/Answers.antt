use Rattle.cut_model.proofs.Reached.{reached_least}
use Rattle.cut_model.proofs.laws.reached_side_is_least.Goals as goal

pub returns : goal.returns
returns c = reached_least
