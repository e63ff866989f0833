use Rattle.query_lang.proofs.Promises.{no_more}
use Rattle.query_lang.proofs.laws.the_weakest_cut_is_no_more.Goals as goal

pub returns : goal.returns
returns c = no_more
