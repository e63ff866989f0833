-- Numbers as they are written.
use Rattle.std.proofs.Common.{◌≡◌, ℕ, ◌+◌, ◌*◌, ◌-◌, ◌^◌, ◌<◌, List, true, fold, decimal, length, Some, refl}
use Rattle.std.proofs.Common.{arith, rules}
use Rattle.std.specs.List.{list_all}
use Rattle.std.proofs.lemmas.Bool.{lt-ltb}
use Rattle.std.proofs.lemmas.Bool.Decides.{nat_tests}
use Rattle.std.proofs.lemmas.List.Elements.{All-weaker}
use Rattle.std.proofs.lemmas.List.Sums.{AllPass-from_list_all}
use Rattle.std.proofs.lemmas.Fmt.{digits_decimal, digits_value-decimal, decimal_nonempty}
use Rattle.std.proofs.lemmas.Str.Parse.{IsNumeralModel, numerals_by_fold}
use Rattle.text_forms.specs.Numbers.{is_digit, is_number, number_in, value_of_digits}
use Rattle.text_forms.proofs.Written.{IsWord}

-- The value of digits behind those whose value is known.
abbrev value_on : ℕ → List ℕ → ℕ
value_on value bytes = fold (λ v b. 10 * v + (b - 48)) value bytes

-- Digits and their values are those of decimal numbers.
numerals : IsNumeralModel (λ bytes. list_all is_digit bytes ≡ true) value_of_digits
numerals = numerals_by_fold _ (search rules) value_on (search rules)

-- A number that is written is a number.
pub is_number-decimal : (n : ℕ) → n < 2 ^ 64 → is_number (decimal n) ≡ true
is_number-decimal n small =
    rw (lt-ltb 0 (length (decimal n)) (decimal_nonempty n small), digits_decimal numerals n small) refl

-- It has the value of which it was written.
pub number_in-decimal : (n : ℕ) → n < 2 ^ 64 → number_in (decimal n) ≡ Some n
number_in-decimal n small = rw (is_number-decimal n small, digits_value-decimal numerals n small) refl

-- A digit is above the space.
digit-above : (b : ℕ) → is_digit b ≡ true → 32 < b
digit-above b is = grind (arith, nat_tests)

-- A number that is written is a word of a line.
pub IsWord-decimal : (n : ℕ) → n < 2 ^ 64 → IsWord (decimal n)
IsWord-decimal n small =
    let all = AllPass-from_list_all is_digit (decimal n) (digits_decimal numerals n small) in
    record {
      some = decimal_nonempty n small;
      bytes = All-weaker (λ b. is_digit b ≡ true) (λ b. 32 < b) digit-above (decimal n) all;
    }
