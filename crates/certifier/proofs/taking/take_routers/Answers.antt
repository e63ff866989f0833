use Rattle.std.proofs.Common.{refl, ap, ◌∙◌, sym, subst, [], replicate}
use Rattle.std.specs.Prelude.{pos}
use Rattle.certifier.proofs.Summing.{sums_none}
use Rattle.certifier.proofs.Steps.{routers_go}
use Rattle.certifier.specs.Kept.{KeptTree}
use Rattle.certifier.specs.Stages.{Takes}
use Rattle.certifier.specs.Sums.{HasSums, SumsView}
use Rattle.certifier.proofs.taking.take_routers.Goals as goal

pub returns-clause-takes : goal.returns-clause-takes
returns-clause-takes c = λ told kept.
    routers_go c.args.number told c.args.width.now c.args.child c.args.up c.in-Some.width (Takes c.take_flow.result)
    (record {
      next = c.if-child-next_child.false ∙ c.next_child.ensures.told told kept;
      apart = c.if-up-child.false;
      read = c.in-Some.ensures;
    })
    (λ w capped. c.take_flow.ensures.takes told
    (record { line = c.args.number; child = c.args.child; up = c.args.up; width = w; flow = [] }) kept
    (record {
      line = refl;
      child = refl;
      up = refl;
      width = capped;
      values = ap (λ (s : SumsView). s.values) c.in_ok-sums.ensures;
      sums = subst (HasSums told.sheet.net []) (sym (ap (λ (s : SumsView). s.sums) c.in_ok-sums.ensures
          ∙ ap (λ (t : KeptTree). replicate t.sheet.net.routers (pos 0)) kept)) (sums_none told.sheet.net);
    }))
