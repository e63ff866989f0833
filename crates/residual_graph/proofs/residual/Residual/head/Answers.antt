use Rattle.std.proofs.Common.{◌∙◌, ◌<◌, ◌/◌, ℕ, length, refl, sym, ap, subst, arith}
use Rattle.std.proofs.lemmas.List.{get_or_read_under}
use Rattle.cut_model.specs.declared.network.Link.{Link}
use Rattle.residual_graph.specs.Arcs.{no_link}
use Rattle.residual_graph.proofs.Listed.{head-even, head-odd, head_below}
use Rattle.residual_graph.proofs.Reading.{is_of, kept_is}
use Rattle.residual_graph.proofs.residual.Residual.head.Goals as goal

pub index-link-requires : goal.index-link-requires
index-link-requires c = omega (arith, (is_of c.self.invariant c.args.self.now c.self.view_is).kept_fits)

pub returns-then-arc-eq0-clause-value : goal.returns-then-arc-eq0-clause-value
returns-then-arc-eq0-clause-value c =
    let of = is_of c.self.invariant c.args.self.now c.self.view_is in
    let kept = c.self.inside.kept.items in
    ap (λ (link : Link). link.b)
    (get_or_read_under kept (c.args.arc / 2) (length kept) _ no_link c.index-link.ensures
    (omega (arith, of.kept_fits)) refl ∙ kept_is of (c.args.arc / 2) (omega arith))
    ∙ sym (head-even c.args.self.now.net c.args.arc c.if-arc-eq0.true)

pub returns-then-arc-eq0-clause-router : goal.returns-then-arc-eq0-clause-router
returns-then-arc-eq0-clause-router c =
    let of = is_of c.self.invariant c.args.self.now c.self.view_is in
    subst (λ (r : ℕ). r < c.args.self.now.net.routers) (sym (returns-then-arc-eq0-clause-value c))
    (head_below c.args.self.now.net of.limits c.args.arc c.requires)

pub returns-else-arc-eq0-clause-value : goal.returns-else-arc-eq0-clause-value
returns-else-arc-eq0-clause-value c =
    let of = is_of c.self.invariant c.args.self.now c.self.view_is in
    let kept = c.self.inside.kept.items in
    ap (λ (link : Link). link.a)
    (get_or_read_under kept (c.args.arc / 2) (length kept) _ no_link c.index-link.ensures
    (omega (arith, of.kept_fits)) refl ∙ kept_is of (c.args.arc / 2) (omega arith))
    ∙ sym (head-odd c.args.self.now.net c.args.arc c.if-arc-eq0.false)

pub returns-else-arc-eq0-clause-router : goal.returns-else-arc-eq0-clause-router
returns-else-arc-eq0-clause-router c =
    let of = is_of c.self.invariant c.args.self.now c.self.view_is in
    subst (λ (r : ℕ). r < c.args.self.now.net.routers) (sym (returns-else-arc-eq0-clause-value c))
    (head_below c.args.self.now.net of.limits c.args.arc c.requires)
