use Rattle.std.proofs.Common.{◌≡◌, ℕ, ◌<◌, true}
use Rattle.cut_model.specs.Cuts.{set_of}
use Rattle.cut_sides.proofs.sides.is_part_of.Given as goal

abbrev pub invariant-loop-router : goal.invariant-loop-router
invariant-loop-router l = (k : ℕ) → k < l.router → set_of l.small k ≡ true → set_of l.large k ≡ true
