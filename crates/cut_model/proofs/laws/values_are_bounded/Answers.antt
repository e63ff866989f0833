use Rattle.cut_model.proofs.Costs.{cut_value-most}
use Rattle.cut_model.proofs.laws.values_are_bounded.Goals as goal

pub returns : goal.returns
returns c = cut_value-most
