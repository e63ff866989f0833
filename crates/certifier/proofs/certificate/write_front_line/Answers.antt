use Rattle.std.proofs.Common.{[], ◌≡◌, ◌-◌, ◌+◌, ◌<◌, ◌∙◌, ap, arith, length}
use Rattle.cut_model.specs.Terminals.{root_of}
use Rattle.network_text.specs.Writing.{text_lines}
use Rattle.certifier.specs.Blocks.{root_text}
use Rattle.certifier.proofs.Fronts.{front_of_root, front_of_text, front_short, length-front, length-text_lines}
use Rattle.wires.proofs.Puts.{puts_same}
use Rattle.certifier.proofs.certificate.write_front_line.Goals as goal

pub returns-then-place-eq0 : goal.returns-then-place-eq0
returns-then-place-eq0 g c = record {
  short = front_short c.args.sheet.now c.net-net.ensures.sheet c.args.place [] c.requires;
  puts = rw c.if-place-eq0.true c.put_pieces.ensures.puts;
}

pub returns-then-place-sheet_line_count : goal.returns-then-place-sheet_line_count
returns-then-place-sheet_line_count g c =
    let sheet = c.args.sheet.now in
    let text = length-text_lines sheet c.net-net.ensures.sheet.numbered in
    let within : c.args.place - 1 < length (text_lines sheet) =
    omega (arith, text, c.if-place-eq0.false, c.if-place-sheet_line_count.true, c.sheet_line_count.ensures.value) in
    record {
      short = front_short sheet c.net-net.ensures.sheet c.args.place [] c.requires;
      puts = puts_same (front_of_text sheet c.args.place c.if-place-eq0.false within) c.write_sheet_line.ensures.puts;
    }

pub returns : goal.returns
returns g c =
    let sheet = c.args.sheet.now in
    let numbered = c.net-net.ensures.sheet.numbered in
    let text = length-text_lines sheet numbered in
    let last : c.args.place ≡ length (text_lines sheet) + 1 =
    omega (
      arith,
      text,
      length-front sheet numbered,
      c.requires,
      c.if-place-sheet_line_count.false,
      c.sheet_line_count.ensures.value,
    ) in
    let root = c.root.ensures.value ∙ ap root_of (c.deref.ensures ∙ c.net-net.ensures.value) in
    record {
      short = front_short sheet c.net-net.ensures.sheet c.args.place [] c.requires;
      puts = puts_same (ap (root_text sheet.names) root ∙ front_of_root sheet c.args.place last)
          c.write_root.ensures.puts;
    }
