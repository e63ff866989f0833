use Rattle.certifier.specs.Blocks.{certificate_layout}
use Rattle.certifier.proofs.LaidOut.{puts_laid_out}
use Rattle.certifier.proofs.certificate.write_certificate.Goals as goal

pub returns : goal.returns
returns g c = record {
  puts = puts_laid_out c.write_lines.result c.args.sheet.now.names c.args.finished.now.tree
      (certificate_layout c.args.sheet.now) c.args.room.now c.write_lines.ensures.puts;
}
