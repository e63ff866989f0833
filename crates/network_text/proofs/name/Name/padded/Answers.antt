use Rattle.network_text.proofs.Paddings.{IsPadded-written}
use Rattle.network_text.proofs.name.Name.padded.Goals as goal

pub invariant_of-result : goal.invariant_of-result
invariant_of-result c = rw c.copy_from_slice.ensures.after (IsPadded-written _ c.requires)
