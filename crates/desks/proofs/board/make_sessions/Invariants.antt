use Rattle.std.proofs.Common.{◌≡◌, ◌≤◌, length, vec_capacity}
use Rattle.desks.proofs.board.make_sessions.Given as goal

-- As many sessions were made as were counted.
abbrev pub invariant-loop-number : goal.invariant-loop-number
invariant-loop-number l = (length l.sessions.items ≡ l._number) × (l.fn.count ≤ vec_capacity l.sessions)
