use Rattle.std.proofs.Common.{◌≡◌, ◌+◌, ◌<◌, ◌≤◌, [], ◌∷◌, ◌++◌, length, ap, ◌∙◌, arith, sym, subst, refl, Ok, w64}
use Rattle.std.specs.Prelude.{nat_abs}
use Rattle.std.proofs.lemmas.Int.{to_z-of_z}
use Rattle.cut_model.specs.declared.network.Link.{Link}
use Rattle.certifier.proofs.Steps.{sign_size, under_on, value_goes}
use Rattle.certifier.proofs.Summing.{view_with}
use Rattle.certifier.specs.Certificates.{link_at}
use Rattle.certifier.specs.Kept.{KeptTree}
use Rattle.certifier.specs.Signs.{with_sign}
use Rattle.certifier.specs.Stages.{IsUnderWay, Lengthens}
use Rattle.certifier.specs.Sums.{SumsView, with_value}
use Rattle.certifier.proofs.taking.add_told.Goals as goal

pub returns-clause-takes : goal.returns-clause-takes
returns-clause-takes c = λ told edge size kept under has.
    let way = c.args.way.now in
    let net = told.sheet.net in
    let link = c.link_of-link.result in
    let sized : c.args.value.size ≡ has.size =
    omega (arith, has.capped, c.if-value-link.false, c.link_of-link.ensures.link.cap) in
    let value : c.value.result ≡ size =
    c.value.ensures ∙ ap (with_sign c.args.value.minus) sized ∙ sym has.is in
    let place : link ≡ link_at net (length edge.flow) =
    c.link_of-link.ensures.value
    ∙ ap (λ n. link_at c.args.tree.now.sheet.net n) (c.values.ensures ∙ under.values)
    ∙ ap (λ (t : KeptTree). link_at t.sheet.net (length edge.flow)) kept in
    let small : nat_abs size ≤ link.cap =
    omega (arith, c.if-value-link.false, sized, ap nat_abs has.is, sign_size c.args.value.minus has.size) in
    let more : length edge.flow < length net.links =
    omega (
      arith,
      under.values,
      subst (λ (t : KeptTree). way.sums.values < length t.sheet.net.links) kept
          c.requires.left,
    ) in
    let a : link.a < length way.sums.sums =
    omega (arith, c.link_of-link.ensures.link.a, c.requires.next.sums) in
    let b : link.b < length way.sums.sums =
    omega (arith, c.link_of-link.ensures.link.b, c.requires.next.sums) in
    let sums : c.add.new.self ≡ view_with (way.sums.values + 1)
    (with_value (link_at net (length edge.flow)) size way.sums.sums) =
    c.add.ensures
    ∙ ap (λ z. view_with (way.sums.values + 1) (with_value link z way.sums.sums))
    (to_z-of_z w64 c.value.result (record { sfits = c.value.type_inv }) ∙ value)
    ∙ ap (λ (l : Link). view_with (way.sums.values + 1) (with_value l size way.sums.sums)) place in
    value_goes c.args.number told edge size (Lengthens told (Ok tt) (record way { sums = c.add.new.self }))
    (subst (λ (l : Link). nat_abs size ≤ l.cap) place small) (
      record edge { flow = edge.flow ++ size ∷ [] },
      subst (λ (s : SumsView). IsUnderWay net (record edge { flow = edge.flow ++ size ∷ [] }) (record way { sums = s }))
          (sym sums)
          (under_on net edge way size under more (subst (λ (l : Link). l.a < length way.sums.sums) place a)
          (subst (λ (l : Link). l.b < length way.sums.sums) place b)),
      refl,
    )
