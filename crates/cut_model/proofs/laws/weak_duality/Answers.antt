use Rattle.cut_model.proofs.Duality.{flow_le}
use Rattle.cut_model.proofs.laws.weak_duality.Goals as goal

pub returns : goal.returns
returns c = flow_le
