use Rattle.std.proofs.Common.{◌≡◌, ℕ, ◌<◌, ◌≤◌, false, length, get_or}
use Rattle.std.specs.Prelude.{not}
use Rattle.cut_sides.proofs.sides.turn_over.Given as goal

abbrev pub invariant-loop-router : goal.invariant-loop-router
invariant-loop-router l = record {
  size : length l.side ≡ length l.fn.side;
  turned : ((k : ℕ) → k < l.router → get_or l.side k false ≡ not (get_or l.fn.side k false));
  rest : ((k : ℕ) → l.router ≤ k → get_or l.side k false ≡ get_or l.fn.side k false);
}
