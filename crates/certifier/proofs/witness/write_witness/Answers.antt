use Rattle.std.proofs.Common.{◌≡◌, Ok, arith, length, refl, subst}
use Rattle.reply_lines.specs.Puts.{PutsTo}
use Rattle.reply_lines.specs.Tails.{spot}
use Rattle.wires.specs.declared.faults.Failed.{Failed}
use Rattle.certifier.specs.Blocks.{LayoutLine, block_place, layout_size, witness_layout}
use Rattle.certifier.proofs.LaidOut.{none_asked, puts_joined, puts_laid_out, puts_to_failed}
use Rattle.certifier.proofs.witness.write_witness.Goals as goal

pub loop-block-preserved : goal.loop-block-preserved
loop-block-preserved g c =
    let tree = c.args.finished.now.tree in
    let layout = witness_layout c.args.children.now in
    let Line = LayoutLine c.args.sheet.now.names tree layout in
    let n = layout_size tree.net layout in
    let from = spot n 0 c.args.room.now in
    let put = c.in_ok-write_block.ensures.puts in
    let both = puts_joined Line from (spot n (block_place tree.net layout c.loop-block.block 0) c.loop-block.room)
    put.last c.loop-block.invariant.puts put.puts in
    record {
      puts = subst (PutsTo {E = Failed} g.K.Sink c.args.sink.now c.write_block.new.sink (Ok tt) Line from) put.all both;
    }

pub returns : goal.returns
returns g c =
    let tree = c.args.finished.now.tree in
    let layout = witness_layout c.args.children.now in
    let n = layout_size tree.net layout in
    let place = block_place tree.net layout c.loop-block.block 0 in
    let end : c.loop-block.block ≡ length c.args.children.now =
    omega (arith, c.loop-block-test.false, c.loop-block.auto.block-end) in
    let whole : n ≡ place = rw end (omega arith) in
    record {
      puts = puts_laid_out (Ok tt) c.args.sheet.now.names tree layout c.args.room.now record {
        last = spot n place c.loop-block.room;
        within = omega (arith, whole);
        left = refl;
        puts = c.loop-block.invariant.puts;
        all = omega (arith, whole);
      };
    }

pub returns-in_err-write_block : goal.returns-in_err-write_block
returns-in_err-write_block g c =
    let tree = c.args.finished.now.tree in
    let layout = witness_layout c.args.children.now in
    let Line = LayoutLine c.args.sheet.now.names tree layout in
    let n = layout_size tree.net layout in
    let from = spot n 0 c.args.room.now in
    let put = c.in_err-write_block.ensures.puts in
    let both = puts_joined Line from (spot n (block_place tree.net layout c.loop-block.block 0) c.loop-block.room)
    put.last c.loop-block.invariant.puts put.puts in
    let end = c.from_residual in
    record {
      puts = puts_laid_out end.result c.args.sheet.now.names tree layout c.args.room.now record {
        last = put.last;
        within = put.within;
        left = put.left;
        puts = puts_to_failed Line from put.last end.result end.ensures.0 both;
        all = none_asked _ end.result end.ensures.0;
      };
    }
