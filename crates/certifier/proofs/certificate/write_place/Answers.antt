use Rattle.std.proofs.Common.{◌≡◌, ◌+◌, ◌<◌, ℕ, arith, codes, length, subst, sym}
use Rattle.cut_model.specs.Net.{Net}
use Rattle.reply_lines.specs.Puts.{PutsLine}
use Rattle.certifier.specs.Blocks.{BlockLine, CarriesFlow, back_place, block_place, block_size, certificate_layout}
use Rattle.certifier.proofs.Fitting.{back_behind, fits_behind, fits_in_block}
use Rattle.certifier.proofs.LaidOut.{puts_in_back, puts_in_block, puts_in_front}
use Rattle.certifier.proofs.certificate.write_place.Goals as goal

pub returns-then-place-front_line_count-clause-puts : goal.returns-then-place-front_line_count-clause-puts
returns-then-place-front_line_count-clause-puts g c =
    let sheet = c.args.sheet.now in
    let layout = certificate_layout sheet in
    let within : c.args.place < length layout.front =
    omega (arith, c.front_line_count.ensures.value, c.if-place-front_line_count.true) in
    puts_in_front sheet.names c.args.finished.now.tree layout c.args.place c.args.room.now within
    c.write_front_line.ensures.short c.write_front_line.ensures.puts

pub returns-then-at-from-clause-fits : goal.returns-then-at-from-clause-fits
returns-then-at-from-clause-fits g c =
    let tree = c.args.finished.now.tree in
    let layout = certificate_layout c.args.sheet.now in
    let at = c.find_edge_line-at in
    let is = subst (λ (net : Net). c.args.place ≡ block_place net layout at.result.block at.result.line)
    (sym c.requires.same) at.ensures.place in
    let back = back_behind tree.net layout at.result.block at.result.line c.args.place is
    (omega (arith, c.edge_count.ensures.value, c.from.ensures, c.if-at-from.true)) in
    fits_behind tree layout c.args.place c.args.room.now back

pub returns-then-at-from-clause-puts : goal.returns-then-at-from-clause-puts
returns-then-at-from-clause-puts g c =
    let tree = c.args.finished.now.tree in
    let layout = certificate_layout c.args.sheet.now in
    let at = c.find_edge_line-at in
    let is = subst (λ (net : Net). c.args.place ≡ block_place net layout at.result.block at.result.line)
    (sym c.requires.same) at.ensures.place in
    let back = back_behind tree.net layout at.result.block at.result.line c.args.place is
    (omega (arith, c.edge_count.ensures.value, c.from.ensures, c.if-at-from.true)) in
    let last : c.args.place ≡ back_place tree.net layout + 0 = omega (arith, back, c.requires.within) in
    puts_in_back c.args.sheet.now.names tree layout c.args.place 0 c.args.room.now (omega arith) last (omega arith)
    c.put_pieces.ensures.puts

pub write_block_line-requires-clause-carried : goal.write_block_line-requires-clause-carried
write_block_line-requires-clause-carried g c = λ link next.
    let tree = c.args.finished.now.tree in
    let layout = certificate_layout c.args.sheet.now in
    let at = c.find_edge_line-at in
    let is = subst (λ (net : Net). c.args.place ≡ block_place net layout at.result.block at.result.line)
    (sym c.requires.same) at.ensures.place in
    let within = subst (λ (net : Net). at.result.line < block_size net) (sym c.requires.same) at.ensures.within in
    subst (λ (child : ℕ). CarriesFlow tree child c.args.room.now) (sym c.child_at-child.ensures.value)
    (c.requires.fits at.result.block link
    (omega (arith, c.edge_count.ensures.value, c.from.ensures, c.if-at-from.false))
    (omega (arith, within, next)) (omega (arith, is, next)))

pub returns-clause-fits : goal.returns-clause-fits
returns-clause-fits g c =
    let tree = c.args.finished.now.tree in
    let layout = certificate_layout c.args.sheet.now in
    let at = c.find_edge_line-at in
    let is = subst (λ (net : Net). c.args.place ≡ block_place net layout at.result.block at.result.line)
    (sym c.requires.same) at.ensures.place in
    let within = subst (λ (net : Net). at.result.line < block_size net) (sym c.requires.same) at.ensures.within in
    fits_in_block tree layout c.args.place c.write_block_line.new.room at.result.block at.result.line is within
    (subst (λ (child : ℕ). CarriesFlow tree child c.write_block_line.new.room) c.child_at-child.ensures.value
    c.write_block_line.ensures.carried)

pub returns-clause-puts : goal.returns-clause-puts
returns-clause-puts g c =
    let names = c.args.sheet.now.names in
    let tree = c.args.finished.now.tree in
    let layout = certificate_layout c.args.sheet.now in
    let at = c.find_edge_line-at in
    let is = subst (λ (net : Net). c.args.place ≡ block_place net layout at.result.block at.result.line)
    (sym c.requires.same) at.ensures.place in
    let within = subst (λ (net : Net). at.result.line < block_size net) (sym c.requires.same) at.ensures.within in
    puts_in_block names tree layout at.result.block at.result.line c.args.place c.args.room.now
    c.write_block_line.new.room (omega (arith, c.edge_count.ensures.value, c.from.ensures, c.if-at-from.false)) within
    is
    (subst (λ (child : ℕ). PutsLine g.K.Sink c.args.sink.now c.write_block_line.new.sink c.write_block_line.result
    (BlockLine (codes "edge") names tree child) at.result.line c.args.room.now c.write_block_line.new.room)
    c.child_at-child.ensures.value c.write_block_line.ensures.puts)
