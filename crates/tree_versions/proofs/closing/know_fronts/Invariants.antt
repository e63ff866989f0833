use Rattle.std.proofs.Common.{ℕ, ◌<◌, get_or}
use Rattle.tree_versions.proofs.closing.know_fronts.Given as goal
use Rattle.tree_versions.specs.Boards.{SeatView, IsFrontOf}

abbrev pub invariant-loop-seat : goal.invariant-loop-seat
invariant-loop-seat g l = (k : ℕ) (d : SeatView) → k < l.seat-index → IsFrontOf l.list (get_or l.seats k d).seen
