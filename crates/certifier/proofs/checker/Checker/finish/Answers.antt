use Rattle.std.proofs.Common.{ap, sym, ◌+◌, true, subst}
use Rattle.certifier.proofs.Deciding.{early_end, end_judges, end_verdict, last_verdict}
use Rattle.certifier.specs.Certificates as told
use Rattle.certifier.specs.Certificates.{Verdict, end_fault, take_line, verdict_on}
use Rattle.certifier.specs.Judging.{IsVerdict}
use Rattle.certifier.specs.declared.judged.Judged.{Judged}
use Rattle.certifier.proofs.checker.Checker.finish.Goals as goal

pub returns-then-not-last_line-clause-judges : goal.returns-then-not-last_line-clause-judges
returns-then-not-last_line-clause-judges c = λ start now w ended none.
    let parts = (rw c.if-not-last_line.true at c.last_line.ensures.tells) w.held w.holds in
    end_judges c.judge_end.result start now c.args.self.now w ended none c.requires.sound.most
    (subst (λ (j : Judged). IsVerdict j (verdict_on true w.bytes)) (sym (c.judge_end.ensures.tells w.stage w.shows))
    (end_verdict start now c.args.self.now w parts.0))

pub returns-in-Ok-clause-judges : goal.returns-in-Ok-clause-judges
returns-in-Ok-clause-judges c = λ start now w ended none.
    let old = c.args.self.now in
    let parts = (rw c.if-not-last_line.false at c.last_line.ensures.tells) w.held w.holds in
    let taken = take_line (old.seen + 1) w.stage c.last_line.new.self.line in
    let on : told.Stage → Verdict =
    λ after. told.Refused record { number = end_fault after; line = old.seen + 1 + 1 } in
    let result = c.judge_end-in-Ok.result in
    end_judges result start now old w ended none c.requires.sound.most
    (subst (IsVerdict result) (sym (last_verdict start now old c.last_line.new.self w parts))
    (early_end c.take.new.self.stage taken (old.seen + 1) on result (c.in-Ok.ensures.takes w.stage w.shows)
    (λ stage shows. subst (λ (j : Judged). IsVerdict j (on stage)) (sym (c.judge_end-in-Ok.ensures.tells stage shows))
    (ap (λ n. told.Refused record { number = end_fault stage; line = n + 1 }) (sym c.in-Ok.ensures.seen)))))

pub returns-in-Err-clause-judges : goal.returns-in-Err-clause-judges
returns-in-Err-clause-judges c = λ start now w ended none.
    let old = c.args.self.now in
    let parts = (rw c.if-not-last_line.false at c.last_line.ensures.tells) w.held w.holds in
    let on : told.Stage → Verdict =
    λ after. told.Refused record { number = end_fault after; line = old.seen + 1 + 1 } in
    end_judges c.in-Err.judged start now old w ended none c.requires.sound.most
    (subst (IsVerdict c.in-Err.judged) (sym (last_verdict start now old c.last_line.new.self w parts))
    (c.in-Err.ensures.takes w.stage w.shows on))
