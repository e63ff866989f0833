use Rattle.certifier.proofs.ToldFlows.{told_flows}
use Rattle.certifier.proofs.laws.witness_tells_flows.Goals as goal

pub returns : goal.returns
returns c = told_flows
