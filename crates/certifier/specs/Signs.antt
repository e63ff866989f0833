-- Signed numbers as they are read.
use Rattle.std.specs.Prelude.{◌≡◌, ℕ, ◌-◌, ◌^◌, min, Bool, true, false, ℤ, pos, neg_ℤ, Some, None}
use Rattle.std.specs.declared.option.Option.{Option}
use Rattle.certifier.specs.declared.forms.Signed.{Signed}

-- a number behind a minus sign, or without one
abbrev pub with_sign : Bool → ℕ → ℤ
with_sign true size = neg_ℤ (pos size)
with_sign false size = pos size

-- a number was read as this value: its size, or the largest one of the type
pub record HasSign (value : ℤ) (signed : Signed) : Type 0 where
  pub size : ℕ
  pub is : value ≡ with_sign signed.minus size
  pub capped : signed.size ≡ min (2 ^ 64 - 1) size

-- a number was read as this one, or as none
abbrev pub IsSigned : Option ℤ → Option Signed → Type 0
IsSigned None None = Unit {0}
IsSigned (Some value) (Some signed) = HasSign value signed
IsSigned _ _ = ⊥
