use Rattle.path_minimum.proofs.OnePath.{path-only}
use Rattle.path_minimum.proofs.laws.ordered_path_is_one.Goals as goal

pub returns : goal.returns
returns c = path-only
