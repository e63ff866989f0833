-- Values of a flow are read as they were written.
use Rattle.std.proofs.Common.{◌≡◌, ℕ, suc, ◌^◌, ◌≤◌, ◌<◌, List}
use Rattle.std.proofs.Common.{[], ◌∷◌, true, length, decimal, Some}
use Rattle.std.proofs.Common.{refl, ap, ◌∙◌, arith, nat_lt, nat_le}
use Rattle.std.proofs.lemmas.Bool.{and_parts, false≢true, leb-true, ne_eqb}
use Rattle.std.proofs.lemmas.Fmt.{length_signed_le}
use Rattle.std.proofs.lemmas.List.Elements.{All-cons}
use Rattle.std.specs.Fmt.{signed_decimal}
use Rattle.std.specs.List.{list_all}
use Rattle.std.specs.Option.{option_map}
use Rattle.std.specs.Prelude.{ℤ, pos, negsuc, neg_ℤ, nat_abs}
use Rattle.cut_model.specs.declared.network.TheConstants.{MOST_CAPACITY}
use Rattle.text_forms.specs.Numbers.{is_digit, is_number, number_in}
use Rattle.text_forms.proofs.Decimals.{IsWord-decimal, is_number-decimal, number_in-decimal}
use Rattle.text_forms.proofs.Written.{IsWord}
use Rattle.certifier.specs.Forms.{signed_in}

-- Digits are read as the number that they are.
signed_in-digits : (bytes : List ℕ) → is_number bytes ≡ true → signed_in bytes ≡ option_map pos (number_in bytes)
signed_in-digits [] is = absurd (false≢true is)
signed_in-digits (b ∷ bytes) is =
    let all = and_parts (nat_lt 0 (length (b ∷ bytes))) (list_all is_digit (b ∷ bytes)) is in
    let first = and_parts (is_digit b) (list_all is_digit bytes) all.1 in
    let above = leb-true 48 b (and_parts (nat_le 48 b) (nat_le b 57) first.0).0 in
    rw (ne_eqb b 45 (λ same. omega arith)) refl

-- A signed number is read again.
pub signed_in-signed_decimal : (value : ℤ) → nat_abs value < 2 ^ 63 → signed_in (signed_decimal value) ≡ Some value
signed_in-signed_decimal (pos n) small =
    signed_in-digits (decimal n) (is_number-decimal n (omega arith))
    ∙ ap (option_map pos) (number_in-decimal n (omega arith))
signed_in-signed_decimal (negsuc n) small =
    ap (option_map (λ m. neg_ℤ (pos m))) (number_in-decimal (suc n) (omega arith))

-- It is one word of a line,
pub IsWord-signed : (value : ℤ) → nat_abs value < 2 ^ 63 → IsWord (signed_decimal value)
IsWord-signed (pos n) small = IsWord-decimal n (omega arith)
IsWord-signed (negsuc n) small = record {
  some = omega arith;
  bytes = All-cons (λ b. 32 < b) 45 (decimal (suc n)) (omega arith) (IsWord-decimal (suc n) (omega arith)).bytes;
}

-- and a short one where it is no greater than a capacity.
pub length-value : (value : ℤ) → nat_abs value ≤ MOST_CAPACITY → length (signed_decimal value) ≤ 14
length-value (pos n) small = length_signed_le 13 (pos n) (omega arith) (omega arith)
length-value (negsuc n) small = length_signed_le 13 (negsuc n) (omega arith) (omega arith)
