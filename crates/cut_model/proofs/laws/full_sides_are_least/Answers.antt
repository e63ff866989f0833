use Rattle.cut_model.proofs.Duality.{full_cut}
use Rattle.cut_model.proofs.laws.full_sides_are_least.Goals as goal

pub returns : goal.returns
returns c = full_cut
