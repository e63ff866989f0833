-- Words that differ in no bit.
use Rattle.std.proofs.Common.{◌≡◌, ℕ, ◌+◌, ◌*◌, ◌%◌, ◌^◌, ◌<◌, bit_or, arith, ap, sym, ◌∙◌}
use Rattle.std.specs.Int.{bit_at}
use Rattle.std.specs.Int.RustNames.{bit_xor}
use Rattle.std.specs.Int.Bits.{xor_self}
use Rattle.std.proofs.lemmas.Nat.{le_or_l, le_or_r}
use Rattle.std.proofs.lemmas.Nat.Bits.{bit_at_xor, bit_at-zero, same_from_bits_below}
use Rattle.cut_model.specs.declared.network.Link.{Link}

-- where no bit of two words together is set, none of the first is
pub none_left : (a b : ℕ) → bit_or a b ≡ 0 → a ≡ 0
none_left a b none = omega (arith, le_or_l a b, none)

-- and none of the second
pub none_right : (a b : ℕ) → bit_or a b ≡ 0 → b ≡ 0
none_right a b none = omega (arith, le_or_r a b, none)

-- bits with an even sum are equal
even_sum : (x y : ℕ) → x < 2 → y < 2 → (x + y) % 2 ≡ 0 → x ≡ y
even_sum x y small low even = omega arith

-- a bit is 0 or 1
bit_small : (a i : ℕ) → bit_at a i < 2
bit_small a i = omega arith

-- words that differ in no bit are equal
pub same_word : (a b : ℕ) → a < 2 ^ 64 → b < 2 ^ 64 → bit_xor a b ≡ 0 → a ≡ b
same_word a b small low none = same_from_bits_below 64 a b small low (λ i within.
    even_sum (bit_at a i) (bit_at b i) (bit_small a i) (bit_small b i)
    (sym (bit_at_xor a b i) ∙ ap (λ x. bit_at x i) none ∙ bit_at-zero i))

-- and equal words differ in no bit
pub no_difference : (a b : ℕ) → a ≡ b → bit_xor a b ≡ 0
no_difference a b same = ap (bit_xor a) (sym same) ∙ xor_self a

-- words with no bit set have none together
pub none_together : (a b : ℕ) → a ≡ 0 → b ≡ 0 → bit_or a b ≡ 0
none_together a b first second = λ i. bit_or (first i) (second i)

-- two ends in one word
abbrev pub ends_of : Link → ℕ
ends_of link = link.a + 4294967296 * link.b

-- ends in one word are told apart by it
same_ends : (a b c d : ℕ) → a < 2 ^ 32 → b < 2 ^ 32 → c < 2 ^ 32 → d < 2 ^ 32
    → a + 4294967296 * b ≡ c + 4294967296 * d → (a ≡ c) × (b ≡ d)
same_ends a b c d sa sb sc sd same = (omega arith, omega arith)

-- links whose words differ in no bit are equal
pub same_links : (ours theirs : Link) → ours.a < 2 ^ 32 → ours.b < 2 ^ 32 → ours.cap < 2 ^ 64
    → theirs.a < 2 ^ 32 → theirs.b < 2 ^ 32 → theirs.cap < 2 ^ 64
    → bit_or (bit_xor ours.cap theirs.cap) (bit_xor (ends_of ours) (ends_of theirs)) ≡ 0 → ours ≡ theirs
same_links ours theirs oa ob oc ta tb tc none =
    let caps = bit_xor ours.cap theirs.cap in
    let ends = bit_xor (ends_of ours) (ends_of theirs) in
    let cap = same_word ours.cap theirs.cap oc tc (none_left caps ends none) in
    let both = same_ends ours.a ours.b theirs.a theirs.b oa ob ta tb
    (same_word (ends_of ours) (ends_of theirs) (omega arith) (omega arith) (none_right caps ends none)) in
    λ i. record { a = both.0 i; b = both.1 i; cap = cap i }
