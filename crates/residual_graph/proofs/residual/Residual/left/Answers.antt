use Rattle.std.proofs.Common.{ap, length, refl, ◌∙◌, arith}
use Rattle.std.specs.Prelude.{pos}
use Rattle.std.proofs.lemmas.List.{get_or_read_under}
use Rattle.residual_graph.proofs.Reading.{is_of, left_at}
use Rattle.residual_graph.proofs.residual.Residual.left.Goals as goal

pub index-requires : goal.index-requires
index-requires g c = omega (arith, (is_of c.self.invariant c.args.self.now c.self.view_is).left_fits)

pub returns-clause-value : goal.returns-clause-value
returns-clause-value g c =
    let of = is_of c.self.invariant c.args.self.now c.self.view_is in
    ap pos (get_or_read_under c.self.inside.left.items c.args.arc (length c.self.inside.left.items) _ 0
    c.index.ensures (omega (arith, of.left_fits)) refl)
    ∙ left_at c.self.invariant c.args.self.now c.self.view_is c.args.arc c.requires
