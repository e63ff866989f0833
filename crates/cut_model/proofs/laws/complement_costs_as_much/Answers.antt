use Rattle.cut_model.proofs.Crossing.{cut_value-outside}
use Rattle.cut_model.proofs.laws.complement_costs_as_much.Goals as goal

pub returns : goal.returns
returns c = cut_value-outside
