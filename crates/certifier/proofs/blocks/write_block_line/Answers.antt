use Rattle.std.proofs.Common.{◌-◌, ◌∙◌, ap, arith, length, pos, slice_index_or}
use Rattle.cut_model.specs.Net.{Net}
use Rattle.certifier.specs.Blocks.{edge_text, on_text}
use Rattle.certifier.proofs.BlockLines.{first_line, value_line}
use Rattle.certifier.proofs.blocks.write_block_line.Goals as goal

pub returns-then-line-eq0-clause-puts : goal.returns-then-line-eq0-clause-puts
returns-then-line-eq0-clause-puts g c =
    let word = c.args.word.now in
    let names = c.args.sheet.now.names in
    let tree = c.args.finished.now.tree in
    record {
      line = edge_text word names tree c.args.child;
      is = first_line word names tree c.args.child c.args.line c.args.room.now c.write_edge.new.room c.if-line-eq0.true
          c.write_edge.ensures.carried;
      short = c.write_edge.ensures.short;
      puts = c.write_edge.ensures.puts;
    }

pub write_value-requires : goal.write_value-requires
write_value-requires g c =
    let carried = c.requires.carried (c.args.line - 1) (omega (arith, c.if-line-eq0.false)) in
    let links = ap (λ (net : Net). length net.links) (carried.net ∙ c.requires.same) in
    omega (arith, links, c.requires.within, c.if-line-eq0.false)

pub returns-clause-carried : goal.returns-clause-carried
returns-clause-carried g c = c.requires.carried (c.args.line - 1) (omega (arith, c.if-line-eq0.false))

pub returns-clause-puts : goal.returns-clause-puts
returns-clause-puts g c = record {
  line = on_text (slice_index_or c.args.room.now.flow (c.args.line - 1) (pos 0));
  is = value_line c.args.word.now c.args.sheet.now.names c.args.finished.now.tree c.args.child c.args.line
      c.args.room.now c.if-line-eq0.false;
  short = c.write_value.ensures.short;
  puts = c.write_value.ensures.puts;
}
