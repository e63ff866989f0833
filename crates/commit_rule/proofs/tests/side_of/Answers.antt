use Rattle.std.proofs.Common.{◌≡◌, false, length, sym, ◌∙◌, arith}
use Rattle.std.proofs.lemmas.List.{ext_get_or}
use Rattle.commit_rule.proofs.tests.side_of.Goals as goal

pub returns : goal.returns
returns c =
    let members : length c.args.members ≡ 6 = omega (arith, c.well_formed) in
    ext_get_or false c.loop-router.side c.args.members (c.loop-router.invariant.size ∙ sym members)
    (λ i low. c.loop-router.invariant.below i (omega (arith, low, c.loop-router.invariant.size)))
