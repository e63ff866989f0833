use Rattle.made_networks.proofs.Pairs.{summary_once}
use Rattle.made_networks.proofs.laws.summary_is_one.Goals as goal

pub returns : goal.returns
returns c = summary_once
