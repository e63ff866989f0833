use Rattle.std.proofs.Common.{◌≤◌, ap, arith, length, subst}
use Rattle.certifier.proofs.Telling.{checks_by, few_end, rises, same_fault, taken_of, tells_all}
use Rattle.certifier.specs.Checks.{is_read_fault, is_write_fault}
use Rattle.wires.specs.Causes.{CountsOne}
use Rattle.certifier.proofs.checking.check.Goals as goal

pub returns-clause-checks : goal.returns-clause-checks
returns-clause-checks g c =
    checks_by c.judge_source-judged.result c.tell.result _ _ (g.K.Sink.written c.tell.new.sink)
    c.judge_source-judged.ensures.judges c.judge_source-judged.ensures.written c.tell.ensures.tells

pub returns-clause-read_cause : goal.returns-clause-read_cause
returns-clause-read_cause g c =
    subst (CountsOne (g.S.Source.read_faults c.args.source.now)
    (g.S.Source.read_faults c.judge_source-judged.new.source))
    (same_fault c.judge_source-judged.result c.tell.result c.tell.ensures.end)
    c.judge_source-judged.ensures.read_count

pub returns-clause-write_cause : goal.returns-clause-write_cause
returns-clause-write_cause g c =
    subst (λ n. CountsOne n (g.K.Sink.write_faults c.tell.new.sink) (is_write_fault c.tell.result))
    c.judge_source-judged.ensures.write_count c.tell.ensures.write_count

pub returns-clause-exact : goal.returns-clause-exact
returns-clause-exact g c = λ bytes left no_read no_write not_long.
    let end = c.tell.result in
    tells_all c.judge_source-judged.result end _ _ bytes c.judge_source-judged.ensures.judges c.tell.ensures.end
    (record {
      left = left;
      no_read = λ e. no_read (rises (g.S.Source.read_faults c.args.source.now)
          (g.S.Source.read_faults c.judge_source-judged.new.source) (is_read_fault end)
          (returns-clause-read_cause g c) (ap is_read_fault e));
      no_write = λ e. no_write (rises (g.K.Sink.write_faults c.args.sink.now)
          (g.K.Sink.write_faults c.tell.new.sink) (is_write_fault end)
          (returns-clause-write_cause g c) (ap is_write_fault e));
      not_long = not_long;
    })

pub returns-clause-completes : goal.returns-clause-completes
returns-clause-completes g c = λ bytes left few no_read no_write.
    let j = c.judge_source-judged.ensures.judges in
    let taken : length j.bytes ≤ length bytes = taken_of _ _ bytes j.bytes left j.gone in
    returns-clause-exact g c bytes left no_read no_write
    (few_end c.judge_source-judged.result c.tell.result _ (length j.bytes) j.tells c.tell.ensures.end
    (omega (arith, taken, few)))
