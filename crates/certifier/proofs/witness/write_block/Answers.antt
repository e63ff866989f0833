use Rattle.std.proofs.Common.{◌≡◌, ◌+◌, ◌<◌, ◌∙◌, ℕ, Ok, add-one, ap, arith, length, refl, subst, sym}
use Rattle.cut_model.specs.Net.{Net}
use Rattle.reply_lines.proofs.Filling.{puts_next}
use Rattle.reply_lines.specs.Puts.{PutsTo}
use Rattle.reply_lines.specs.Tails.{spot}
use Rattle.wires.specs.declared.faults.Failed.{Failed}
use Rattle.certifier.specs.Blocks.{LayoutLine, block_place, block_size, layout_size, witness_layout}
use Rattle.certifier.proofs.Fitting.{place_below}
use Rattle.certifier.proofs.Places.{next_block}
use Rattle.certifier.proofs.LaidOut.{none_asked, puts_in_block, puts_to_failed}
use Rattle.certifier.proofs.witness.write_block.Goals as goal

pub loop-k-preserved : goal.loop-k-preserved
loop-k-preserved g c =
    let names = c.args.sheet.now.names in
    let tree = c.args.finished.now.tree in
    let layout = witness_layout c.args.children.now in
    let Line = LayoutLine names tree layout in
    let n = layout_size tree.net layout in
    let block = c.args.block in
    let k = c.loop-k.k in
    let place = block_place tree.net layout block k in
    let from = spot n (block_place tree.net layout block 0) c.args.room.now in
    let room = c.write_block_line.new.room in
    let links = ap length c.links.ensures.value
    ∙ ap (λ (net : Net). length net.links) (c.deref.ensures ∙ c.net.ensures.value ∙ sym c.requires.same) in
    let of_block : k < block_size tree.net = omega (arith, links, c.loop-k-test.true) in
    let low = place_below tree.net layout block k place refl of_block c.requires.within in
    let line = puts_in_block names tree layout block k place c.loop-k.room room c.requires.within of_block refl
    c.in_ok-write_block_line.ensures.puts in
    let both = puts_next {E = Failed} {result = Ok tt} Line from n place c.loop-k.room room low
    c.loop-k.invariant.puts line in
    let next : place + 1 ≡ block_place tree.net layout block (k + 1) = omega arith in
    record {
      puts = subst (λ (p : ℕ). PutsTo {E = Failed} g.K.Sink c.args.sink.now c.write_block_line.new.sink (Ok tt) Line
          from (spot n p room)) next both;
      carried = λ link is. c.in_ok-write_block_line.ensures.carried;
    }

pub returns : goal.returns
returns g c =
    let tree = c.args.finished.now.tree in
    let layout = witness_layout c.args.children.now in
    let Line = LayoutLine c.args.sheet.now.names tree layout in
    let n = layout_size tree.net layout in
    let block = c.args.block in
    let from = spot n (block_place tree.net layout block 0) c.args.room.now in
    let links = ap length c.links.ensures.value
    ∙ ap (λ (net : Net). length net.links) (c.deref.ensures ∙ c.net.ensures.value ∙ sym c.requires.same) in
    let end : c.loop-k.k ≡ block_size tree.net =
    omega (arith, links, c.loop-k-test.false, c.loop-k.auto.k-end) in
    let last = length tree.net.links in
    let low = place_below tree.net layout block last _ refl (omega arith) c.requires.within in
    let next = ap (block_place tree.net layout block) end ∙ next_block tree.net layout block
    ∙ ap (λ b. block_place tree.net layout b 0) (sym (add-one block)) in
    let place = block_place tree.net layout (block + 1) 0 in
    record {
      puts = record {
        last = spot n place c.loop-k.room;
        within = omega (arith, low, next, end);
        left = refl;
        puts = subst (λ (p : ℕ). PutsTo {E = Failed} g.K.Sink c.args.sink.now c.loop-k.sink (Ok tt) Line from
            (spot n p c.loop-k.room)) next c.loop-k.invariant.puts;
        all = refl;
      };
    }

pub returns-in_err-write_block_line : goal.returns-in_err-write_block_line
returns-in_err-write_block_line g c =
    let names = c.args.sheet.now.names in
    let tree = c.args.finished.now.tree in
    let layout = witness_layout c.args.children.now in
    let Line = LayoutLine names tree layout in
    let n = layout_size tree.net layout in
    let block = c.args.block in
    let k = c.loop-k.k in
    let place = block_place tree.net layout block k in
    let from = spot n (block_place tree.net layout block 0) c.args.room.now in
    let room = c.write_block_line.new.room in
    let links = ap length c.links.ensures.value
    ∙ ap (λ (net : Net). length net.links) (c.deref.ensures ∙ c.net.ensures.value ∙ sym c.requires.same) in
    let of_block : k < block_size tree.net = omega (arith, links, c.loop-k-test.true) in
    let low = place_below tree.net layout block k place refl of_block c.requires.within in
    let line = puts_in_block names tree layout block k place c.loop-k.room room c.requires.within of_block refl
    c.in_err-write_block_line.ensures.puts in
    let both = puts_next Line from n place c.loop-k.room room low c.loop-k.invariant.puts line in
    let end = c.from_residual in
    record {
      puts = record {
        last = spot n (place + 1) room;
        within = omega (arith, low);
        left = refl;
        puts = puts_to_failed Line from (spot n (place + 1) room) end.result end.ensures.0 both;
        all = none_asked _ end.result end.ensures.0;
      };
    }
