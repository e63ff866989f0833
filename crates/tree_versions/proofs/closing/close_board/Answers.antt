use Rattle.std.proofs.Common.{◌∙◌, List, get_or, subst, sym}
use Rattle.tree_versions.proofs.closing.close_board.Goals as goal
use Rattle.tree_versions.specs.Boards.{IsFrontOf}
use Rattle.tree_versions.specs.Records.{RecordView}

pub returns-clause-fronts : goal.returns-clause-fronts
returns-clause-fronts g c k d h =
    let all = rw c.as_slice.ensures.value at c.know_fronts.ensures in
    let same = c.into_parts-records.ensures.records ∙ sym c.into_parts-records.ensures.front in
    subst (λ (list : List RecordView). IsFrontOf list (get_or c.args.seats.items k d).seen) (sym same) (all k d h)
