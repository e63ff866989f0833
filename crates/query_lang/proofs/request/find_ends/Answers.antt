use Rattle.std.proofs.Common.{◌∙◌, ap, arith}
use Rattle.cut_model.specs.Net.{Net}
use Rattle.cut_model.proofs.Terminals.{all_terminals}
use Rattle.query_lang.proofs.request.find_ends.Goals as goal

pub returns-clause-of : goal.returns-clause-of
returns-clause-of c =
    let net = c.args.sheet.now.net in
    let routers = ap (λ (n : Net). n.routers) (c.deref.ensures ∙ c.net.ensures.value) in (
      c.if-a-b.false,
      all_terminals net c.in_ok-a.a (omega (arith, routers, c.max.ensures)),
      all_terminals net c.in_ok-b.b (omega (arith, routers, c.max.ensures)),
    )
