use Rattle.std.proofs.Common.{rules}
use Rattle.session.proofs.tests.serve_past_the_end.Goals as goal

pub block_on-requires : goal.block_on-requires
block_on-requires g c = rw c.lazy-polled.ensures (λ cx. (search rules, λ r left called. search rules))
