use Rattle.cut_model.proofs.Crossing.{meet_join, differences}
use Rattle.cut_model.proofs.laws.crossing_sides.Goals as goal

pub returns-clause-meet_and_join : goal.returns-clause-meet_and_join
returns-clause-meet_and_join c = meet_join

pub returns-clause-differences : goal.returns-clause-differences
returns-clause-differences c = differences
