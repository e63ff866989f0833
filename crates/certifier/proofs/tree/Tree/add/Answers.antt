use Rattle.std.proofs.Common.{◌+◌, ◌<◌, ◌≡◌, length, sym, subst}
use Rattle.certifier.specs.Kept.{KeptTree, next_in}
use Rattle.certifier.proofs.Keeping.{shape_more}
use Rattle.certifier.proofs.tree.Tree.add.Goals as goal

pub invariant_of-self : goal.invariant_of-self
invariant_of-self c =
    let kept : KeptTree = record {
      sheet = c.self.inside.sheet;
      root = c.self.inside.root;
      edges = c.self.inside.edges.items;
    } in
    let left : length kept.edges + 1 < kept.sheet.net.routers
    = subst (λ (k : KeptTree). length k.edges + 1 < k.sheet.net.routers) (sym c.self.view_is) c.requires.left in
    let up_low : c.args.up < kept.sheet.net.routers
    = subst (λ (k : KeptTree). c.args.up < k.sheet.net.routers) (sym c.self.view_is) c.requires.up in
    let next : c.next_child-child.result ≡ next_in kept
    = subst (λ (k : KeptTree). c.next_child-child.result ≡ next_in k) (sym c.self.view_is)
    c.next_child-child.ensures.value in
    rw (c.push_reserved.ensures.items, c.push_reserved.ensures.capacity) (
      shape_more kept c.self.inside.up.items
          (record { line = c.args.line; child = c.next_child-child.result; up = c.args.up; width = c.args.width })
          c.self.invariant.0 left next up_low,
      c.self.invariant.1,
    )
