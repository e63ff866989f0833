use Rattle.std.proofs.Common.{sym, ◌∙◌, length, arith}
use Rattle.std.specs.Prelude.{slice_index}
use Rattle.tree_state.specs.Tables.{below}
use Rattle.certifier.proofs.Ranges.{all_in_range, one_fails}
use Rattle.certifier.proofs.ways.all_come_to.Goals as goal

pub returns-then-not-comes_to : goal.returns-then-not-comes_to
returns-then-not-comes_to c =
    sym (one_fails (below (length c.args.up.now) (slice_index c.args.up.now) c.args.root) 0 (length c.args.up.now)
    c.loop-router.router (omega arith) (omega arith) (sym c.comes_to.ensures ∙ c.if-not-comes_to.true))

pub returns : goal.returns
returns c =
    sym (all_in_range (below (length c.args.up.now) (slice_index c.args.up.now) c.args.root) 0 (length c.args.up.now)
    (λ r from to. c.loop-router.invariant.before r (omega arith)))
