use Rattle.query_lang.proofs.Promises.{least_of_path}
use Rattle.query_lang.proofs.laws.a_cut_is_the_least_of_its_path.Goals as goal

pub returns : goal.returns
returns c = least_of_path
