use Rattle.std.proofs.Common.{◌<◌, length, arith, ◌∙◌, sym, subst}
use Rattle.certifier.proofs.Summing.{none_in, some_leak}
use Rattle.certifier.specs.Sums.{SumsView, some_stays}
use Rattle.certifier.proofs.sums.Sums.leaks_beside.Goals as goal

pub returns-then-stays : goal.returns-then-stays
returns-then-stays c =
    some_leak c.args.self.now.sums c.args.child c.args.up c.loop-router.router
    (subst (λ (v : SumsView). c.loop-router.router < length v.sums) c.self.view_is
    (omega (arith, c.loop-router-test.true, c.self.inside.sums.ok)))
    (sym c.stays.ensures ∙ c.if-stays.true)

pub returns : goal.returns
returns c =
    sym (none_in (some_stays c.args.self.now.sums c.args.child c.args.up) (length c.args.self.now.sums)
    (λ k low. c.loop-router.invariant k (omega (
      arith,
      c.loop-router-test.false,
      subst (λ (v : SumsView). k < length v.sums) (sym c.self.view_is) low,
      c.self.inside.sums.ok,
    ))))
