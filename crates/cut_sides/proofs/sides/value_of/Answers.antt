use Rattle.std.proofs.Common.{List, ap, ◌∙◌, arith}
use Rattle.std.specs.Prelude.{sum_by}
use Rattle.std.proofs.lemmas.List.{take_all}
use Rattle.cut_model.specs.declared.network.Link.{Link}
use Rattle.cut_model.specs.Cuts.{across, cut_value, set_of}
use Rattle.cut_sides.proofs.sides.value_of.Goals as goal

pub returns : goal.returns
unfolding cut_value
returns c =
    let X = set_of c.args.side.now in
    let links = c.links-link-items in
    c.loop-link.invariant.total
    ∙ ap (λ (ls : List Link). sum_by (across X) ls)
    (take_all c.loop-link.link-index links.result.now (omega arith) ∙ links.ensures.value)
