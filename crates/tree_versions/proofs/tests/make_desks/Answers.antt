use Rattle.std.proofs.Common.{rules}
use Rattle.std.proofs.lemmas.List.Elements.{All-pop}
use Rattle.tree_versions.proofs.tests.make_desks.Goals as goal
use Rattle.tree_versions.specs.Boards.{IsNew}

pub loop-seat-preserved : goal.loop-seat-preserved
loop-seat-preserved g c =
    let new = All-pop IsNew _ _ _ c.pop.ensures.items c.loop-seat.invariant.3 in
    (search rules, search rules, search rules, new.0)
