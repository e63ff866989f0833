use Rattle.std.proofs.Common.{◌≡◌, List, None, sym, subst, arith}
use Rattle.cut_model.specs.Net.{net_fault}
use Rattle.cut_model.specs.declared.network.Link.{Link}
use Rattle.cut_model.proofs.Faults.{faultless_if_in_limits}
use Rattle.made_networks.specs.Draws.{made_links}
use Rattle.made_networks.proofs.Drawing.{made_net-limits}
use Rattle.made_networks.proofs.network.make_network.Goals as goal

pub unreachable-requires : goal.unreachable-requires
unreachable-requires c =
    let routers = c.args.routers in
    let limits = made_net-limits c.args.seed routers c.args.links (omega arith) c.requires.few_routers
    c.requires.few_links in
    let none = subst (λ (links : List Link). net_fault routers links ≡ None) (sym c.in_ok-made.ensures)
    (faultless_if_in_limits routers (made_links c.args.seed routers c.args.links) limits) in
    let fault = c.in_default.ensures.fault in cc
