use Rattle.std.proofs.Common.{◌∙◌, ap, arith}
use Rattle.cut_model.specs.Net.{Net}
use Rattle.cut_model.specs.Terminals.{root_of}
use Rattle.certifier.proofs.Fronts.{length-routers_but}
use Rattle.certifier.proofs.certificate.edge_count.Goals as goal

pub returns : goal.returns
returns c =
    let net = c.args.sheet.now.net in
    let routers = ap (λ (n : Net). n.routers) (c.deref.ensures ∙ c.net.ensures.value) in
    let children = length-routers_but (root_of net) net.routers in
    record {
      value = omega (arith, children, routers, c.routers.ensures.value);
      few = omega (arith, c.routers.ensures.some, c.routers.ensures.most);
    }
