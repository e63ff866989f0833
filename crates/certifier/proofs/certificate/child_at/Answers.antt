use Rattle.std.proofs.Common.{◌-◌, ◌<◌, ◌∙◌, ℕ, ap, arith, subst, sym}
use Rattle.cut_model.specs.Net.{Net}
use Rattle.cut_model.specs.Terminals.{root_of}
use Rattle.certifier.specs.Blocks.{router_but}
use Rattle.certifier.specs.Lines.{IsLowerEnd}
use Rattle.certifier.proofs.Fronts.{length-routers_but, router_but-lower, routers_but-at}
use Rattle.certifier.proofs.certificate.child_at.Goals as goal

pub number_but-requires : goal.number_but-requires
number_but-requires c =
    let net = c.args.sheet.now.net in
    let routers = ap (λ (n : Net). n.routers) (c.deref.ensures ∙ c.net-net.ensures.value) in
    let children = length-routers_but (root_of net) net.routers in
    omega (arith, c.requires, children, routers, c.routers.ensures.value, c.routers.ensures.most)

pub returns : goal.returns
returns c =
    let net = c.args.sheet.now.net in
    let place = c.args.place in
    let children = length-routers_but (root_of net) net.routers in
    let low : place < net.routers - 1 = omega (arith, c.requires, children) in
    let root = c.root.ensures.value ∙ ap root_of (c.deref-2.ensures ∙ c.net-net.ensures.value) in
    let child = c.number_but.ensures ∙ ap (λ (r : ℕ). router_but r place) root in
    record {
      value = child ∙ sym (routers_but-at (root_of net) net.routers place low);
      lower = subst (IsLowerEnd net) (sym child) (router_but-lower net place low);
    }
