use Rattle.std.proofs.lemmas.Slice.Eq.{slice_eq-Decides}
use Rattle.cut_model.specs.declared.network.Link.{Link}
use Rattle.cut_model.proofs.Links.{link_eq, link_eq-Decides, same_net}
use Rattle.cut_model.proofs.network.Network.same_as.Goals as goal

pub returns-then-self-other : goal.returns-then-self-other
returns-then-self-other c =
    let same = slice_eq-Decides {A = Link} {E = link_eq} link_eq-Decides c.self.inside.links.items
    c.other.inside.links.items c.eq.result c.eq.ensures in
    same_net c.self.inside.routers c.other.inside.routers c.self.inside.links.items c.other.inside.links.items
    c.args.self.now c.args.other.now
    c.eq.result c.self.view_is c.other.view_is c.if-self-other.true same
