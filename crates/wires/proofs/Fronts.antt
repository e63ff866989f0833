-- What reads and writes of a part do to known bytes.
use Rattle.std.proofs.Common.{◌≡◌, ℕ, ◌+◌, ◌-◌, ◌<◌, ◌≤◌, min, List, [], ◌++◌, length, take, drop, None, Some}
use Rattle.std.proofs.Common.{sym, ap, ◌∙◌, arith, append_assoc, length-drop, take_all}
use Rattle.std.proofs.lemmas.List.{take-append-drop, take-take, drop-drop, drop_all}
use Rattle.std.proofs.Math.Seq.{take-add}
use Rattle.std.specs.declared.option.Option.{Option}
use Rattle.std.specs.Io.KnownBytes.{Appends}

-- the part of a slice from a place on
pub rest_is : (slice bytes : List ℕ) (at : ℕ) → slice ≡ bytes
    → take (length slice - at) (drop at slice) ≡ drop at bytes
rest_is slice bytes at same =
    let whole : length (drop at slice) ≤ length slice - at = omega (arith, length-drop at slice) in
    take_all (length slice - at) (drop at slice) whole ∙ ap (drop at) same

-- bytes whose front was copied are that front and what lies behind it
pub front_copied : (bytes rest buffer : List ℕ) (at n : ℕ) → rest ≡ drop at bytes → take n buffer ≡ take n rest
    → drop at bytes ≡ take n buffer ++ drop (at + n) bytes
front_copied bytes rest buffer at n same is =
    sym (take-append-drop n (drop at bytes)) ∙ ap (λ l. take n l ++ drop n (drop at bytes)) (sym same)
    ∙ ap (λ l. l ++ drop n (drop at bytes)) (sym is) ∙ ap (λ l. take n buffer ++ l) (drop-drop n at bytes)

-- where a buffer and its piece have room, nothing is copied only behind the end
pub end_copied : (bytes rest : List ℕ) (at n piece room : ℕ) → rest ≡ drop at bytes
    → n ≡ min (min (length rest) piece) room → 0 < piece → n ≡ 0 → 0 < room → drop (at + n) bytes ≡ []
end_copied bytes rest at n piece room same count some none space =
    let over : length bytes ≤ at + n = omega (arith, ap length same, length-drop at bytes) in
    drop_all (at + n) bytes over

-- the same where a piece is all that is left
pub rest_copied : (bytes rest : List ℕ) (at n room : ℕ) → rest ≡ drop at bytes
    → n ≡ min (min (length rest) (length rest)) room → n ≡ 0 → 0 < room → drop (at + n) bytes ≡ []
rest_copied bytes rest at n room same count none space =
    let over : length bytes ≤ at + n = omega (arith, ap length same, length-drop at bytes) in
    drop_all (at + n) bytes over

-- a list was written up to `i`, and then `n` more of its elements
pub Appends-on : (a b c : Option (List ℕ)) (xs : List ℕ) (i n : ℕ) → i + n ≤ length xs
    → Appends a b (take i xs) → Appends b c (take n (take (length xs - i) (drop i xs))) → Appends a c (take (i + n) xs)
Appends-on None b c xs i n within p q = tt
Appends-on (Some x) None c xs i n within p q = absurd p
Appends-on (Some x) (Some y) None xs i n within p q = absurd q
Appends-on (Some x) (Some y) (Some z) xs i n within p q =
    let low : n ≤ length xs - i = omega arith in
    q ∙ ap (λ l. y ++ l) (take-take n (length xs - i) (drop i xs) low) ∙ ap (λ l. l ++ take n (drop i xs)) p
    ∙ append_assoc x (take i xs) (take n (drop i xs)) ∙ ap (λ l. x ++ l) (sym (take-add i n xs))
