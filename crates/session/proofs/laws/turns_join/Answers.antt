use Rattle.session.proofs.TurnLaws.{turns_join}
use Rattle.session.proofs.laws.turns_join.Goals as goal

pub returns : goal.returns
returns c = turns_join
