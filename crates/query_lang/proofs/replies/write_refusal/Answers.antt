use Rattle.std.proofs.Common.{◌++◌, codes}
use Rattle.query_lang.specs.Replies.{line_piece, refusal_head, refused_text}
use Rattle.wires.proofs.Puts.{puts_then, puts_failed}
use Rattle.query_lang.proofs.replies.write_refusal.Goals as goal

pub returns : goal.returns
unfolding refused_text
returns g c =
    let head = refusal_head c.args.version c.args.number in
    let line = line_piece c.args.line in
    record {
      puts = puts_then head (line ++ codes "\n") c.in_ok-write_refusal_head.ensures.puts
          (puts_then line (codes "\n") c.in_ok-write_line_number.ensures.puts c.put_pieces.ensures.puts);
    }

pub returns-in_err-write_refusal_head : goal.returns-in_err-write_refusal_head
unfolding refused_text
returns-in_err-write_refusal_head g c =
    let head = refusal_head c.args.version c.args.number in
    let line = line_piece c.args.line in
    let end = c.from_residual in
    let put = c.in_err-write_refusal_head.ensures.puts in
    record { puts = puts_failed head (line ++ codes "\n") end.result end.ensures.0 put }

pub returns-in_err-write_line_number : goal.returns-in_err-write_line_number
unfolding refused_text
returns-in_err-write_line_number g c =
    let head = refusal_head c.args.version c.args.number in
    let line = line_piece c.args.line in
    let end = c.from_residual-in_err-write_line_number in
    record {
      puts = puts_then head (line ++ codes "\n") c.in_ok-write_refusal_head.ensures.puts
          (puts_failed line (codes "\n") end.result end.ensures.0 c.in_err-write_line_number.ensures.puts);
    }
