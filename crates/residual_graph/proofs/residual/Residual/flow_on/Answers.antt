use Rattle.std.proofs.Common.{◌≡◌, get_or, length, refl, ap, ◌*◌, ◌∙◌, arith, rules}
use Rattle.std.specs.Prelude.{pos, ◌-ℤ◌, slice_index_or}
use Rattle.std.proofs.lemmas.List.{get_or_read_under}
use Rattle.cut_model.specs.declared.network.Link.{Link}
use Rattle.residual_graph.specs.Arcs.{no_link}
use Rattle.residual_graph.proofs.Reading.{is_of, flow_at_link}
use Rattle.residual_graph.proofs.residual.Residual.flow_on.Goals as goal

pub index-requires : goal.index-requires
index-requires c = omega (arith, (is_of c.self.invariant c.args.self.now c.self.view_is).kept_fits)

pub index-requires-2 : goal.index-requires-2
index-requires-2 c = omega (arith, (is_of c.self.invariant c.args.self.now c.self.view_is).left_fits)

pub flow_of-requires : goal.flow_of-requires
flow_of-requires c =
    let of = is_of c.self.invariant c.args.self.now c.self.view_is in
    let at = flow_at_link c.self.invariant c.args.self.now c.self.view_is c.args.link c.requires in
    let kept = c.self.inside.kept.items in
    let left = c.self.inside.left.items in
    let link = get_or_read_under kept c.args.link (length kept) _ no_link c.index.ensures
    (omega (arith, of.kept_fits)) refl in
    let there = get_or_read_under left (2 * c.args.link) (length left) _ 0 c.index-2.ensures
    (omega (arith, of.left_fits)) refl in record {
      cap = omega (arith, ap (λ (l : Link). l.cap) link, at.cap);
      left = omega (arith, there, at.most);
    }

pub returns : goal.returns
returns c =
    let of = is_of c.self.invariant c.args.self.now c.self.view_is in
    let at = flow_at_link c.self.invariant c.args.self.now c.self.view_is c.args.link c.requires in
    let kept = c.self.inside.kept.items in
    let left = c.self.inside.left.items in
    let link = get_or_read_under kept c.args.link (length kept) _ no_link c.index.ensures
    (omega (arith, of.kept_fits)) refl in
    let there = get_or_read_under left (2 * c.args.link) (length left) _ 0 c.index-2.ensures
    (omega (arith, of.left_fits)) refl in
    let flow : c.flow_of.result ≡ slice_index_or c.args.self.now.flow c.args.link (pos 0) =
    c.flow_of.ensures ∙ ap (λ (l : Link). pos l.cap -ℤ pos c.index-2.result.now) link
    ∙ ap (λ x. pos (get_or kept c.args.link no_link).cap -ℤ pos x) there ∙ at.is in
    let t = c.flow_of.type_inv in
    search (rules, flow)
