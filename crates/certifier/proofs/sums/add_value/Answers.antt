use Rattle.std.proofs.Common.{◌<◌, ◌+◌, ◌^◌, List, arith, ap, ◌∙◌, sym, subst, w64}
use Rattle.std.specs.Prelude.{ℤ, nat_abs}
use Rattle.std.proofs.lemmas.Int.{to_z-of_z}
use Rattle.certifier.proofs.Summing.{sum_size}
use Rattle.certifier.specs.Sums.{sum_at, with_end}
use Rattle.certifier.proofs.sums.add_value.Goals as goal

pub take_at-requires-clause-room : goal.take_at-requires-clause-room
take_at-requires-clause-room c =
    let whole = to_z-of_z w64 c.args.value c.ranges.value in
    let link = c.args.link.now in
    let sums = c.args.sums.now in
    let new = c.add_at.ensures ∙ ap (λ z. with_end link.a z sums) whole in
    rw whole (subst (λ (l : List ℤ). nat_abs (sum_at l link.b) + nat_abs c.args.value < 2 ^ 62) (sym new)
    (omega (arith, c.requires.small link.b c.requires.b, sum_size sums link.a c.args.value link.b c.requires.a)))
