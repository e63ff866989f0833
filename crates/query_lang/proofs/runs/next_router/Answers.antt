use Rattle.std.proofs.Common.{arith}
use Rattle.query_lang.proofs.Sought.{others_on, word_others}
use Rattle.query_lang.proofs.runs.next_router.Goals as goal

pub loop-router-preserved : goal.loop-router-preserved
loop-router-preserved c =
    let router = c.loop-router.router in
    let before = c.loop-router.invariant in
    let none = c.first_bit-bit.ensures.none in
    let word = word_others c.args.side.now c.args.inside router 64 c.word_of.result c.word_of.ensures (omega arith)
    (λ i behind low. none i behind (omega (arith, low, c.if-bit-lt64.false))) in
    record {
      behind = omega (arith, before.behind);
      others = others_on c.args.side.now c.args.inside c.args.from router _ before.others word;
    }

pub returns-then-bit-lt64-clause-others : goal.returns-then-bit-lt64-clause-others
returns-then-bit-lt64-clause-others c = λ r behind before within.
    let side = c.args.side.now in
    let router = c.loop-router.router in
    let bit = c.first_bit-bit in
    let bits = c.word_of.ensures in
    let known = bit.ensures in
    let word = word_others side c.args.inside router bit.result c.word_of.result bits known.within known.none in
    others_on side c.args.inside c.args.from router _ c.loop-router.invariant.others word r behind
    (omega (arith, before, c.min.ensures)) within
