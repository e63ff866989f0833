use Rattle.std.proofs.Common.{List, sym, subst}
use Rattle.path_minimum.specs.Jumps.{AreJumps, RungView}
use Rattle.path_minimum.specs.declared.rungs.Jump.{Jump}
use Rattle.path_minimum.proofs.rungs.Rung.doubled.Goals as goal

pub returns-clause-rung : goal.returns-clause-rung
returns-clause-rung c =
    let tree = c.args.finished.now.tree in
    c.push_doubled.ensures c.self.inside.steps
    (subst (λ (jumps : List Jump). AreJumps tree c.self.inside.steps jumps) (sym c.deref.ensures.value)
    (subst (λ (rung : RungView). AreJumps tree rung.steps rung.jumps) (sym c.self.view_is) c.requires.rung))
