use Rattle.std.proofs.Common.{ℕ, ◌-◌, ◌<◌, ◌≤◌, length, slice_index}
use Rattle.path_minimum.proofs.walk.stretch_from.Given as goal

-- the routers before this end lie deeper
abbrev pub invariant-loop-end : goal.invariant-loop-end
invariant-loop-end l = record {
  later : l.place < l.end;
  inside : l.end ≤ length l.order;
  deeper :
      (k : ℕ) → l.place < k → k < l.end
      → slice_index l.depths (slice_index l.order l.place) < slice_index l.depths (slice_index l.order k);
}

abbrev pub decreases-loop-end : goal.decreases-loop-end
decreases-loop-end l = length l.order - l.end
