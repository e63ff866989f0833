-- Labels that are stored on top of a base.
use Rattle.std.specs.Prelude.{ℕ, ◌+◌, ◌-◌, ◌≤◌, List, map, All}
use Rattle.dinic_flow.specs.declared.labels.TheConstants.{MOST_LABEL}

-- By how much each number is above the base: 0 where it isn't.
abbrev pub labels_above : ℕ → List ℕ → List ℕ
labels_above base numbers = map (λ (n : ℕ). n - base) numbers

-- Each label on top of the base is a number of 32 bits, and no number is farther above the base than that.
pub record HasRoom (base : ℕ) (numbers : List ℕ) : Type 0 where
  pub fits : base + MOST_LABEL ≤ 4294967295
  pub most : All (λ n. n ≤ base + MOST_LABEL) numbers
