use Rattle.std.proofs.Common.{arith}
use Rattle.certifier.proofs.Fronts.{length-front}
use Rattle.certifier.proofs.certificate.front_line_count.Goals as goal

pub returns : goal.returns
returns c =
    let front = length-front c.args.sheet.now c.net.ensures.sheet.numbered in
    record {
      value = omega (arith, front, c.sheet_line_count.ensures.value);
      few = omega (arith, c.sheet_line_count.ensures.few);
    }
