use Rattle.query_lang.proofs.Promises.{one_cut}
use Rattle.query_lang.proofs.laws.a_cut_turned_is_one_cut.Goals as goal

pub returns : goal.returns
returns c = one_cut
