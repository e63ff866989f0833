use Rattle.std.proofs.Common.{arith}
use Rattle.path_minimum.proofs.sides.mark.Goals as goal

pub returns-clause-others : goal.returns-clause-others
returns-clause-others c r apart =
    c.loop-place.invariant.others r
    (λ k from less. apart k from (omega (arith, less, c.loop-place.auto.place-end, c.requires.order)))
