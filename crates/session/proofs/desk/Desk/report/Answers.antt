use Rattle.session.proofs.Heading.{fits_first}
use Rattle.session.proofs.desk.Desk.report.Goals as goal
use Rattle.tree_versions.specs.Records.{tree_of}

pub tell-requires-clause-fits : goal.tell-requires-clause-fits
tell-requires-clause-fits c = λ layout lays. fits_first (tree_of c.args.made.now) layout _
