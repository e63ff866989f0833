use Rattle.cut_model.proofs.Crossing.{grow, shrink}
use Rattle.cut_model.proofs.laws.sides_go_round_least_cuts.Goals as goal

pub returns-clause-joined : goal.returns-clause-joined
returns-clause-joined c = grow

pub returns-clause-left : goal.returns-clause-left
returns-clause-left c = shrink
