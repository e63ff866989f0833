use Rattle.std.proofs.Common.{◌++◌, codes}
use Rattle.query_lang.specs.Replies.{cut_head, cut_text, side_names}
use Rattle.wires.proofs.Puts.{puts_then, puts_failed}
use Rattle.query_lang.proofs.cuts.write_cut.Goals as goal

pub returns : goal.returns
unfolding cut_text
returns g c =
    let head = cut_head c.args.version c.args.word.now c.args.value in
    let names = side_names c.args.sheet.now.names c.args.side.now in
    record {
      puts = puts_then head (names ++ codes "\n") c.in_ok-write_cut_head.ensures.puts
          (puts_then names (codes "\n") c.in_ok-write_names.ensures.puts c.put_pieces.ensures.puts);
    }

pub returns-in_err-write_cut_head : goal.returns-in_err-write_cut_head
unfolding cut_text
returns-in_err-write_cut_head g c =
    let head = cut_head c.args.version c.args.word.now c.args.value in
    let names = side_names c.args.sheet.now.names c.args.side.now in
    let end = c.from_residual in
    let put = c.in_err-write_cut_head.ensures.puts in
    record { puts = puts_failed head (names ++ codes "\n") end.result end.ensures.0 put }

pub returns-in_err-write_names : goal.returns-in_err-write_names
unfolding cut_text
returns-in_err-write_names g c =
    let head = cut_head c.args.version c.args.word.now c.args.value in
    let names = side_names c.args.sheet.now.names c.args.side.now in
    let end = c.from_residual-in_err-write_names in
    record {
      puts = puts_then head (names ++ codes "\n") c.in_ok-write_cut_head.ensures.puts
          (puts_failed names (codes "\n") end.result end.ensures.0 c.in_err-write_names.ensures.puts);
    }
