use Rattle.query_lang.proofs.Promises.{one_way}
use Rattle.query_lang.proofs.laws.a_path_turned_is_one_way.Goals as goal

pub returns : goal.returns
returns c = one_way
