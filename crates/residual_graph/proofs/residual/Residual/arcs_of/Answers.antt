use Rattle.std.proofs.Common.{◌+◌, length, refl, arith}
use Rattle.std.proofs.lemmas.List.{get_or_read_under}
use Rattle.residual_graph.proofs.ByPlace.{begin-next}
use Rattle.residual_graph.proofs.Listed.{arcs_ascend}
use Rattle.residual_graph.proofs.Reading.{is_of, sound_of}
use Rattle.residual_graph.proofs.residual.Residual.arcs_of.Goals as goal

pub index-requires : goal.index-requires
index-requires c = omega (arith, (is_of c.self.invariant c.args.self.now c.self.view_is).first_fits)

pub index-requires-2 : goal.index-requires-2
index-requires-2 c = omega (arith, (is_of c.self.invariant c.args.self.now c.self.view_is).first_fits)

pub overflow_sub-result : goal.overflow_sub-result
overflow_sub-result c =
    let of = is_of c.self.invariant c.args.self.now c.self.view_is in
    let first = c.self.inside.first.items in
    let to = get_or_read_under first (c.args.router + 1) (length first) _ 0 c.index.ensures
    (omega (arith, of.first_fits)) refl in
    let from = get_or_read_under first c.args.router (length first) _ 0 c.index-2.ensures
    (omega (arith, of.first_fits)) refl in
    omega (arith, (of.group c.args.router c.requires).rises, to, from)

pub returns-clause-value : goal.returns-clause-value
returns-clause-value c =
    let of = is_of c.self.invariant c.args.self.now c.self.view_is in
    let first = c.self.inside.first.items in
    let to = get_or_read_under first (c.args.router + 1) (length first) _ 0 c.index.ensures
    (omega (arith, of.first_fits)) refl in
    let from = get_or_read_under first c.args.router (length first) _ 0 c.index-2.ensures
    (omega (arith, of.first_fits)) refl in
    let group = of.group c.args.router c.requires in
    omega (arith, to, from, group.begins, group.ends, begin-next c.args.self.now.net c.args.router)

pub returns-clause-ascending : goal.returns-clause-ascending
returns-clause-ascending c = arcs_ascend c.args.self.now.net c.args.router

pub returns-clause-sound : goal.returns-clause-sound
returns-clause-sound c = sound_of c.self.invariant c.args.self.now c.self.view_is
