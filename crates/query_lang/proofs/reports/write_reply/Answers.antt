use Rattle.query_lang.proofs.reports.write_reply.Goals as goal
use Rattle.wires.proofs.Puts.{puts_same}
use Rattle.reply_lines.proofs.Known.{known_puts}

pub returns : goal.returns
returns g c =
    let tells = c.find-report.ensures in
    let put = known_puts c.find-report.result tt c.write_lines.result c.write_lines.ensures.puts in
    record {
      puts = record {
        text = tells.text;
        wanted = tells.report;
        puts = puts_same tells.whole put;
      };
    }
