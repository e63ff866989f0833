use Rattle.std.proofs.Common.{arith}
use Rattle.tree_state.proofs.Grown.{entries-lt}
use Rattle.tree_state.proofs.growing.Growing.commits.Goals as goal

pub overflow_cast-result : goal.overflow_cast-result
overflow_cast-result c = omega (
  arith,
  c.len.ensures,
  c.self.inside.history.ok.0,
  entries-lt c.self.invariant.0 c.self.invariant.1.limits,
  c.self.invariant.1.limits.few_routers,
)

pub returns-clause-few : goal.returns-clause-few
returns-clause-few c = rw (← c.self.view_is)
    (omega (arith, c.len.ensures, c.self.inside.history.ok.0, entries-lt c.self.invariant.0 c.self.invariant.1.limits))
