-- Numbers as texts.
use Rattle.std.specs.Prelude.{ℕ, ◌+◌, ◌*◌, ◌-◌, List, Bool, ◌&&◌, nat_lt, nat_le, length, if◌then◌else◌, Some}
use Rattle.std.specs.Prelude.{None, fold}
use Rattle.std.specs.List.{list_all}
use Rattle.std.specs.declared.option.Option.{Option}

-- an ASCII digit
abbrev pub is_digit : ℕ → Bool
is_digit b = nat_le 48 b && nat_le b 57

-- one digit or more
abbrev pub is_number : List ℕ → Bool
is_number bytes = nat_lt 0 (length bytes) && list_all is_digit bytes

-- the decimal value of digits, however many there are
abbrev pub value_of_digits : List ℕ → ℕ
value_of_digits bytes = fold (λ value b. 10 * value + (b - 48)) 0 bytes

-- the value of a number, and none where the bytes are no number
abbrev pub number_in : List ℕ → Option ℕ
number_in bytes = if is_number bytes then Some (value_of_digits bytes) else None
