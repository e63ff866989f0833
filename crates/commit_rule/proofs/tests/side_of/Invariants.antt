use Rattle.std.proofs.Common.{◌≡◌, ℕ, ◌<◌, ◌≤◌, false, length, get_or}
use Rattle.commit_rule.proofs.tests.side_of.Given as goal

-- the routers before the next are in the side where they are marked, and the others aren't
abbrev pub invariant-loop-router : goal.invariant-loop-router
invariant-loop-router l = record {
  size : length l.side ≡ 6;
  within : l.router ≤ 6;
  below : (i : ℕ) → i < l.router → get_or l.side i false ≡ get_or l.members i false;
  above : (i : ℕ) → l.router ≤ i → get_or l.side i false ≡ false;
}
