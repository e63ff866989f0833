use Rattle.std.proofs.Common.{◌≡◌, ◌+◌, true, false, length, sym, ◌∙◌}
use Rattle.std.specs.Prelude.{nat_lt}
use Rattle.certifier.proofs.Wholes.{left-told}
use Rattle.certifier.proofs.taking.take_between.Goals as goal

pub returns-then-is_whole-clause-takes : goal.returns-then-is_whole-clause-takes
returns-then-is_whole-clause-takes c told kept =
    let none_left : nat_lt (length told.edges + 1) told.sheet.net.routers ≡ false =
    left-told told c.args.tree true kept (sym c.if-is_whole.true ∙ c.is_whole.ensures) in
    rw none_left (c.take_done.ensures.takes told kept)

pub returns-else-is_whole-clause-takes : goal.returns-else-is_whole-clause-takes
returns-else-is_whole-clause-takes c told kept =
    let one_left : nat_lt (length told.edges + 1) told.sheet.net.routers ≡ true =
    left-told told c.args.tree false kept (sym c.if-is_whole.false ∙ c.is_whole.ensures) in
    rw one_left (c.take_edge.ensures.takes told kept)
