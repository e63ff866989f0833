use Rattle.std.proofs.Common.{◌<◌, inl, inr, sym, ◌∙◌, subst}
use Rattle.path_minimum.specs.declared.least_edge.PathLeast.{PathLeast}
use Rattle.path_minimum.specs.Walks.{IsLesser, edge_of}
use Rattle.path_minimum.proofs.Jumping.{joined-jump, ended-jump}
use Rattle.path_minimum.proofs.rungs.joined.Goals as goal

pub returns-then-first-root : goal.returns-then-first-root
returns-then-first-root c steps r low one more =
    ended-jump c.args.finished.now.tree c.requires.tree steps r c.args.first one
    (c.if-first-root.true ∙ c.root.ensures.value)

pub returns : goal.returns
returns c steps r low one more =
    let lesser : IsLesser c.lesser.result (edge_of c.args.finished.now.tree c.args.first.child)
    (edge_of c.args.finished.now.tree c.args.rest.child) =
    rw (c.edge_above.ensures, c.edge_above-2.ensures) at c.lesser.ensures in
    joined-jump c.args.finished.now.tree c.requires.tree steps r c.args.first c.args.rest c.lesser.result one more
    (λ top. c.if-first-root.false (top ∙ sym c.root.ensures.value)) (elim lesser.either [
      | inl e ↦ subst (λ (p : PathLeast). p.child < c.args.finished.now.tree.net.routers) (sym e) c.requires.first
      | inr e ↦ subst (λ (p : PathLeast). p.child < c.args.finished.now.tree.net.routers) (sym e) c.requires.rest
    ]) lesser
