-- When a fault may be answered, and how faults are counted.
use Rattle.std.specs.Prelude.{◌≡◌, ℕ, ◌+◌, ◌-◌, ◌^◌, ◌≤◌, min, Bool, true, false, Result, Ok, Err, OnErr, OnOk}

-- a count after one more, which stays at the end of its type
abbrev pub one_more : ℕ → ℕ
one_more count = min (count + 1) (2 ^ 64 - 1)

-- a count of faults is greater than before, or stands at the end of its type
abbrev pub Rose : ℕ → ℕ → Type 0
Rose before now = one_more before ≤ now

-- a count of faults never falls; it is as before where a call succeeded, and one more where it failed
pub record HasCause {T E : Type 0} (before now : ℕ) (result : Result T E) : Type 0 where
  pub later : before ≤ now
  pub still : OnOk result (now ≡ before)
  pub failed : OnErr result (now ≡ one_more before)

-- a result that is an error where this holds
abbrev pub error_where : Bool → Result (Unit {0}) (Unit {0})
error_where true = Err tt
error_where false = Ok tt

-- a count of any answer keeps the same rule: it is one more where that answer came, and else as before
abbrev pub CountsOne : ℕ → ℕ → Bool → Type 0
CountsOne before now came = HasCause before now (error_where came)
