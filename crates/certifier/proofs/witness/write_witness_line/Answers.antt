use Rattle.std.proofs.Common.{◌≡◌, ◌+◌, ◌*◌, ◌<◌, ◌∙◌, arith, subst, sym}
use Rattle.cut_model.specs.Net.{Net}
use Rattle.certifier.specs.Blocks.{block_place, block_size, witness_layout}
use Rattle.certifier.specs.Lines.{lines_told}
use Rattle.certifier.proofs.Fitting.{place_below}
use Rattle.certifier.proofs.LaidOut.{puts_there_failed}
use Rattle.certifier.proofs.witness.write_witness_line.Goals as goal

pub returns-in_err-write_place-clause-puts : goal.returns-in_err-write_place-clause-puts
returns-in_err-write_place-clause-puts g c =
    let tree = c.args.finished.now.tree in
    let layout = witness_layout c.args.children.now in
    let at = c.find_block-at in
    let net = c.deref.ensures ∙ c.net.ensures.value ∙ sym c.requires.same in
    let of_block = subst (λ (n : Net). at.result.line < block_size n) net at.ensures.within in
    let here = subst (λ (n : Net). c.args.place ≡ at.result.block * block_size n + at.result.line) net
    at.ensures.place in
    let is : c.args.place ≡ block_place tree.net layout at.result.block at.result.line = omega (arith, here) in
    let within = place_below tree.net layout at.result.block at.result.line c.args.place is of_block
    (omega (arith, c.if-at-children.false)) in
    puts_there_failed c.from_residual.result c.from_residual.ensures.0
    (lines_told c.args.sheet.now tree layout c.args.room.ghost_name) c.args.place c.args.room.now
    c.write_place.new.room within c.in_err-write_place.ensures.puts
