use Rattle.std.proofs.Common.{◌≡◌, ◌+◌, ◌<◌, ap, ◌∙◌, length, subst, sym, w64}
use Rattle.std.proofs.lemmas.Int.{to_z-of_z}
use Rattle.std.proofs.lemmas.List.{with_items_is}
use Rattle.std.specs.Vec.{with_items}
use Rattle.cut_model.specs.declared.network.TheConstants.{MOST_LINKS}
use Rattle.certifier.proofs.Summing.{same_view, small_on, view_with}
use Rattle.certifier.specs.Sums.{AreSmall, SumsView, with_value}
use Rattle.certifier.proofs.sums.Sums.add.Goals as goal

pub invariant_of-self : goal.invariant_of-self
invariant_of-self c =
    let value = c.args.value in
    let link = c.args.link.now in
    let sums = c.self.inside.sums in
    let new : c.add_value.new.sums ≡ with_value link value sums.items =
    c.add_value.ensures
    ∙ ap (λ z. with_value link z c.deref_mut.result.now) (to_z-of_z w64 c.args.value c.ranges.value)
    ∙ ap (with_value link value) c.deref_mut.ensures.value in
    let items : (with_items sums c.add_value.new.sums).items ≡ c.add_value.new.sums =
    with_items_is sums c.add_value.new.sums (c.add_value.auto.sums ∙ c.deref_mut.ensures.len) in
    subst (AreSmall (c.self.inside.values + 1)) (sym (items ∙ new))
    (small_on link value c.self.inside.values sums.items c.self.invariant
    (subst (λ (v : SumsView). v.values < MOST_LINKS) (sym c.self.view_is) c.requires.few)
    (subst (λ (v : SumsView). link.a < length v.sums) (sym c.self.view_is) c.requires.a)
    (subst (λ (v : SumsView). link.b < length v.sums) (sym c.self.view_is) c.requires.b) c.requires.small)

pub returns : goal.returns
returns c =
    let value = c.args.value in
    let link = c.args.link.now in
    let sums = c.self.inside.sums in
    let new : c.add_value.new.sums ≡ with_value link value sums.items =
    c.add_value.ensures
    ∙ ap (λ z. with_value link z c.deref_mut.result.now) (to_z-of_z w64 c.args.value c.ranges.value)
    ∙ ap (with_value link value) c.deref_mut.ensures.value in
    let items : (with_items sums c.add_value.new.sums).items ≡ c.add_value.new.sums =
    with_items_is sums c.add_value.new.sums (c.add_value.auto.sums ∙ c.deref_mut.ensures.len) in
    ap (view_with (c.self.inside.values + 1)) (items ∙ new) ∙ same_view link value c.self.view_is
