use Rattle.std.proofs.Common.{◌≡◌, ℕ, ◌<◌, ◌≤◌, length, slice_index}
use Rattle.cut_model.specs.Cuts.{set_of}
use Rattle.path_minimum.specs.Stretches.{IsNotBetween}
use Rattle.path_minimum.proofs.sides.mark.Given as goal

-- the routers at the places before this one are marked, and no others
abbrev pub invariant-loop-place : goal.invariant-loop-place
invariant-loop-place l = record {
  size : length l.side ≡ length l.fn.side;
  marked : (k : ℕ) → l.from ≤ k → k < l.place → set_of l.side (slice_index l.order k) ≡ l.inside;
  others :
      (r : ℕ) → IsNotBetween l.order l.from l.place r → set_of l.side r ≡ set_of l.fn.side r;
}
