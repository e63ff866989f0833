use Rattle.std.proofs.Common.{◌≡◌, ◌+◌, ◌*◌, ◌<◌, ◌∙◌, arith, subst, sym}
use Rattle.cut_model.specs.Net.{Net}
use Rattle.certifier.specs.Blocks.{block_place, block_size, witness_layout}
use Rattle.certifier.proofs.Fitting.{fits_in_block, witness_within}
use Rattle.certifier.proofs.witness.write_place.Goals as goal

pub write_block_line-requires-clause-carried : goal.write_block_line-requires-clause-carried
write_block_line-requires-clause-carried g c = λ link next.
    let tree = c.args.finished.now.tree in
    let children = c.args.children.now in
    let at = c.find_block-at in
    let net = c.deref.ensures ∙ c.net.ensures.value ∙ sym c.requires.same in
    let within = subst (λ (n : Net). at.result.line < block_size n) net at.ensures.within in
    let here = subst (λ (n : Net). c.args.place ≡ at.result.block * block_size n + at.result.line) net
    at.ensures.place in
    let is : c.args.place ≡ block_place tree.net (witness_layout children) at.result.block at.result.line =
    omega (arith, here) in
    c.requires.fits at.result.block link
    (witness_within tree.net children at.result.block at.result.line c.args.place is c.requires.within)
    (omega (arith, within, next)) (omega (arith, is, next))

pub returns-clause-fits : goal.returns-clause-fits
returns-clause-fits g c =
    let tree = c.args.finished.now.tree in
    let children = c.args.children.now in
    let at = c.find_block-at in
    let net = c.deref.ensures ∙ c.net.ensures.value ∙ sym c.requires.same in
    let within = subst (λ (n : Net). at.result.line < block_size n) net at.ensures.within in
    let here = subst (λ (n : Net). c.args.place ≡ at.result.block * block_size n + at.result.line) net
    at.ensures.place in
    let is : c.args.place ≡ block_place tree.net (witness_layout children) at.result.block at.result.line =
    omega (arith, here) in
    fits_in_block tree (witness_layout children) c.args.place c.write_block_line.new.room at.result.block at.result.line
    is within c.write_block_line.ensures.carried
