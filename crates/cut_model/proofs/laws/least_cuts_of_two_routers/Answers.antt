use Rattle.cut_model.proofs.Crossing.{least_once, least_turned}
use Rattle.cut_model.proofs.laws.least_cuts_of_two_routers.Goals as goal

pub returns-clause-value : goal.returns-clause-value
returns-clause-value c = least_once

pub returns-clause-turned : goal.returns-clause-turned
returns-clause-turned c = least_turned
