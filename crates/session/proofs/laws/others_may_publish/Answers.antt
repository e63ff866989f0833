use Rattle.session.proofs.TurnLaws.{others_may_publish}
use Rattle.session.proofs.laws.others_may_publish.Goals as goal

pub returns : goal.returns
returns c = others_may_publish
