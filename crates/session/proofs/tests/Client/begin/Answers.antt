use Rattle.std.proofs.Common.{[], None, ap, arith}
use Rattle.line_reader.specs.Buffered.{Buffered}
use Rattle.session.proofs.Loading.{whole_held}
use Rattle.session.proofs.tests.Client.begin.Goals as goal

pub returns-clause-held : goal.returns-clause-held
returns-clause-held c = λ records unended. whole_held records _ c.make-task.ensures.anew.idle.left

pub returns-clause-on : goal.returns-clause-on
returns-clause-on c =
    let anew = c.make-task.ensures.anew in (
      None,
      [],
      λ at. record {
        text = λ e. anew.between;
        rest = anew.holds;
        unmet = λ e. absurd (omega (arith, e, ap (λ (r : Buffered). r.taken) anew.reader));
      },
    )
