use Rattle.std.proofs.Common.{◌≡◌, ℕ, ◌<◌, ◌≤◌, length, vec_len, vec_capacity}
use Rattle.path_minimum.specs.Jumps.{jump_at, IsJump}
use Rattle.path_minimum.proofs.rungs.Rung.single.Given as goal

-- the jumps from the routers before this one
abbrev pub invariant-loop-child : goal.invariant-loop-child
invariant-loop-child l = record {
  count : vec_len l.jumps ≡ l.child;
  size : length l.jumps.items ≡ l.child;
  room : l.finished.tree.net.routers ≤ vec_capacity l.jumps;
  made : (c : ℕ) → c < length l.jumps.items → IsJump l.finished.tree 1 c (jump_at l.jumps.items c);
}
