use Rattle.query_lang.proofs.Promises.{parting_edges}
use Rattle.query_lang.proofs.laws.a_path_parts_its_ends.Goals as goal

pub returns : goal.returns
returns c = parting_edges
