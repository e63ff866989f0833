use Rattle.std.proofs.Common.{◌∙◌, inl, refl, sym}
use Rattle.network_text.proofs.Adding.{known, unknown}
use Rattle.network_text.proofs.drafting.number_known.Goals as goal

pub returns-in-Some : goal.returns-in-Some
returns-in-Some c =
    let there = known c.args.names.now.keys c.args.name.now c.in-Some.number
    (sym c.get_index_of.ensures.index ∙ c.in-Some.is) in
    record { named = there.0; number = there.1; below = there.2; refused = tt }

pub returns-in-None : goal.returns-in-None
returns-in-None c =
    let many = unknown c.args.names.now.keys c.args.name.now c.requires.full
    (sym c.get_index_of.ensures.index ∙ c.in-None.is) in
    record { named = tt; number = tt; below = tt; refused = inl (many, refl) }
