use Rattle.std.proofs.Common.{◌<◌, false, length, map, sym, ◌∙◌, arith}
use Rattle.std.specs.Prelude.{not}
use Rattle.std.proofs.lemmas.List.{ext_get_or, get_or-map, length-map}
use Rattle.cut_sides.proofs.sides.turn_over.Goals as goal

pub returns : goal.returns
returns c =
    let before = c.args.side.now in
    let after = c.loop-router.side in
    ext_get_or false after (map not before) (c.loop-router.invariant.size ∙ sym (length-map before not)) (λ k within.
    let low : k < length c.args.side.now = omega (arith, c.loop-router.invariant.size) in
    c.loop-router.invariant.turned k (omega arith) ∙ sym (get_or-map not before k false false low))
