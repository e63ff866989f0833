use Rattle.session.proofs.WitnessWidths.{witness_is_no_less}
use Rattle.session.proofs.laws.a_witness_is_no_less_than_the_cut.Goals as goal

pub returns : goal.returns
returns c = witness_is_no_less
