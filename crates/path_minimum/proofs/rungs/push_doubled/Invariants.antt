use Rattle.std.proofs.Common.{◌≡◌, ℕ, ◌+◌, ◌<◌, ◌≤◌, length, vec_len, vec_capacity}
use Rattle.path_minimum.specs.Jumps.{jump_at, AreJumps, IsJump}
use Rattle.path_minimum.proofs.rungs.push_doubled.Given as goal

-- the jumps from the routers before this one
abbrev pub invariant-loop-first : goal.invariant-loop-first
invariant-loop-first l = record {
  count : vec_len l.doubled ≡ l.first-index;
  size : length l.doubled.items ≡ l.first-index;
  room : length l.jumps ≤ vec_capacity l.doubled;
  made :
      (steps : ℕ) → AreJumps l.finished.tree steps l.jumps
      → (c : ℕ) → c < length l.doubled.items
      → IsJump l.finished.tree (steps + steps) c (jump_at l.doubled.items c);
}
