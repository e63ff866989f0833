use Rattle.std.proofs.Common.{Ok}
use Rattle.reply_lines.specs.Puts.{PutsTo}
use Rattle.reply_lines.specs.Tails.{spot}
use Rattle.wires.specs.declared.faults.Failed.{Failed}
use Rattle.certifier.specs.Blocks.{LayoutLine, block_place, layout_size, witness_layout}
use Rattle.certifier.proofs.witness.write_witness.Given as goal

-- The blocks so far are put.
abbrev pub invariant-loop-block : goal.invariant-loop-block
invariant-loop-block g l =
    let tree = l.finished.tree in
    let layout = witness_layout l.children in
    let n = layout_size tree.net layout in
    record {
      puts : PutsTo {E = Failed} g.K.Sink l.fn.sink l.sink (Ok tt) (LayoutLine l.sheet.names tree layout)
          (spot n 0 l.fn.room) (spot n (block_place tree.net layout l.block 0) l.room);
    }
