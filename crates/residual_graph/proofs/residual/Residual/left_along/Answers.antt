use Rattle.std.proofs.Common.{ap, get_or, length, refl, ◌∙◌, arith}
use Rattle.std.specs.Prelude.{pos}
use Rattle.std.specs.Int.RustNames.{bit_xor}
use Rattle.std.proofs.lemmas.List.{get_or_read_under}
use Rattle.residual_graph.specs.Arcs.{turned}
use Rattle.residual_graph.proofs.Moves.{xor_turned, turned_inside}
use Rattle.residual_graph.proofs.Reading.{is_of, left_at}
use Rattle.residual_graph.proofs.residual.Residual.left_along.Goals as goal

pub index-requires : goal.index-requires
index-requires g c =
    let of = is_of c.self.invariant c.args.self.now c.self.view_is in
    let is = xor_turned c.args.back c.args.arc c.from.result c.from.ensures in
    omega (arith, is, of.left_fits, turned_inside c.args.back c.args.arc (length c.args.self.now.net.links) c.requires)

pub returns-clause-value : goal.returns-clause-value
returns-clause-value g c =
    let of = is_of c.self.invariant c.args.self.now c.self.view_is in
    let is = xor_turned c.args.back c.args.arc c.from.result c.from.ensures in
    let inside = turned_inside c.args.back c.args.arc (length c.args.self.now.net.links) c.requires in
    ap pos (get_or_read_under c.self.inside.left.items (bit_xor c.args.arc c.from.result)
    (length c.self.inside.left.items) _ 0 c.index.ensures
    (omega (arith, is, of.left_fits, inside)) refl)
    ∙ ap (λ k. pos (get_or c.self.inside.left.items k 0)) is
    ∙ left_at c.self.invariant c.args.self.now c.self.view_is (turned c.args.back c.args.arc) inside
