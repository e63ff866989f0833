use Rattle.std.proofs.Common.{◌∙◌, length, refl, arith}
use Rattle.std.proofs.lemmas.List.{get_or_read_under}
use Rattle.residual_graph.proofs.ByPlace.{begin-end}
use Rattle.residual_graph.proofs.Reading.{is_of, begin_is}
use Rattle.residual_graph.proofs.residual.Residual.begin.Goals as goal

pub index-requires : goal.index-requires
index-requires c = omega (arith, (is_of c.self.invariant c.args.self.now c.self.view_is).first_fits)

pub returns-clause-value : goal.returns-clause-value
returns-clause-value c =
    let of = is_of c.self.invariant c.args.self.now c.self.view_is in
    get_or_read_under c.self.inside.first.items c.args.router (length c.self.inside.first.items) _ 0 c.index.ensures
    (omega (arith, of.first_fits)) refl
    ∙ (begin_is of c.args.router c.requires).is

pub returns-clause-most : goal.returns-clause-most
returns-clause-most c =
    let of = is_of c.self.invariant c.args.self.now c.self.view_is in
    let at = get_or_read_under c.self.inside.first.items c.args.router (length c.self.inside.first.items) _ 0
    c.index.ensures (omega (arith, of.first_fits)) refl in
    omega (arith, at, (begin_is of c.args.router c.requires).most)

pub returns-clause-end : goal.returns-clause-end
returns-clause-end c =
    begin-end c.args.self.now.net (is_of c.self.invariant c.args.self.now c.self.view_is).limits
