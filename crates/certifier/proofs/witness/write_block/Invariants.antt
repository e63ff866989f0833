use Rattle.std.proofs.Common.{◌≡◌, ℕ, suc, Ok}
use Rattle.std.specs.Prelude.{slice_index}
use Rattle.reply_lines.specs.Puts.{PutsTo}
use Rattle.reply_lines.specs.Tails.{spot}
use Rattle.wires.specs.declared.faults.Failed.{Failed}
use Rattle.certifier.specs.Blocks.{CarriesFlow, LayoutLine, block_place, layout_size, witness_layout}
use Rattle.certifier.proofs.witness.write_block.Given as goal

-- The lines of the block so far are put, and behind the first one a flow of its edge is carried.
abbrev pub invariant-loop-k : goal.invariant-loop-k
invariant-loop-k g l =
    let tree = l.finished.tree in
    let layout = witness_layout l.children in
    let n = layout_size tree.net layout in
    record {
      puts : PutsTo {E = Failed} g.K.Sink l.fn.sink l.sink (Ok tt) (LayoutLine l.sheet.names tree layout)
          (spot n (block_place tree.net layout l.block 0) l.fn.room)
          (spot n (block_place tree.net layout l.block l.k) l.room);
      carried : (link : ℕ) → l.k ≡ suc link → CarriesFlow tree (slice_index l.children l.block) l.room;
    }
