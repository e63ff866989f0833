use Rattle.certifier.proofs.Staying.{verdict_stays}
use Rattle.certifier.proofs.laws.what_was_decided_stays.Goals as goal

pub returns : goal.returns
returns c = verdict_stays
