use Rattle.session.proofs.TurnLaws.{turns_are_a_session}
use Rattle.session.proofs.laws.turns_are_a_session.Goals as goal

pub returns : goal.returns
returns c = turns_are_a_session
