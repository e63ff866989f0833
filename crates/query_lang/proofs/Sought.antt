-- Routers that are sought in a side, word by word.
use Rattle.std.proofs.Common.{◌≡◌, ℕ, ◌+◌, ◌-◌, ◌*◌, ◌/◌, ◌%◌, ◌^◌, ◌<◌, ◌≤◌, List, Bool, true, false, not}
use Rattle.std.proofs.Common.{slice_index_or, sym, ap, ◌∙◌, arith, ◌==◌, refl}
use Rattle.std.specs.Int.{bit_at, bit_not}
use Rattle.std.specs.Int.Count.{count_trailing_zeros}
use Rattle.std.proofs.Common.{◌≢◌, inl, inr, w64}
use Rattle.std.proofs.Math.Nat.{div-add-mod, div-le_self, mod-lt}
use Rattle.std.proofs.lemmas.Bool.{cases_lt}
use Rattle.std.proofs.lemmas.Nat.{pow_pos, shr_split}
use Rattle.std.proofs.lemmas.Nat.Bits.{bit_at-lt, bit_at-trailing_zeros, bit_at-zero}
use Rattle.std.proofs.lemmas.Nat.Bits.{bit_at_above, bit_at_cat_high, bit_at_not}
use Rattle.cut_model.specs.Side.{HasBits}
use Rattle.query_lang.specs.Runs.{AreOthers, is_sought}

-- A bit of a word is a bit of the word that is moved down.
pub bit_at-moved : (word place i : ℕ) → place ≤ i → bit_at word i ≡ bit_at (word / 2 ^ place) (i - place)
bit_at-moved word place i behind =
    ap (λ w. bit_at w i) (sym (shr_split word place))
    ∙ bit_at_cat_high (word / 2 ^ place) place (word % 2 ^ place) i (mod-lt word (pow_pos place)) behind

-- Where nothing is left of a word that is moved down, no bit is set from there on.
pub none-left : (word place : ℕ) → word / 2 ^ place ≡ 0 → (i : ℕ) → place ≤ i → bit_at word i ≡ 0
none-left word place none i behind =
    bit_at-moved word place i behind ∙ ap (λ w. bit_at w (i - place)) none ∙ bit_at-zero (i - place)

-- Else the lowest bit of what is left is the first that is set from there on.
module _ (word place : ℕ) (small : word < 2 ^ 64) (some : word / 2 ^ place ≢ 0) where
  -- Its place in the word that is moved down.
  abbrev lowest : ℕ
  lowest = count_trailing_zeros 64 (word / 2 ^ place)

  -- It is 1, and those below it are 0.
  lowest_is : (lowest < 64) × (bit_at (word / 2 ^ place) lowest ≡ 1)
      × ((i : ℕ) → i < lowest → bit_at (word / 2 ^ place) i ≡ 0)
  lowest_is =
      let fewer : word / 2 ^ place ≤ word = div-le_self word (2 ^ place) in
      bit_at-trailing_zeros w64 (word / 2 ^ place) (omega (arith, some)) (omega (arith, small, fewer))

  -- So no bit before it is set in the whole word,
  pub first-none : (i : ℕ) → place ≤ i → i < place + lowest → bit_at word i ≡ 0
  first-none i behind before =
      bit_at-moved word place i behind ∙ lowest_is.2 (i - place) (omega (arith, behind, before))

  -- it is,
  pub first-found : bit_at word (place + lowest) ≡ 1
  first-found =
      let here : place + lowest - place ≡ lowest = omega arith in
      bit_at-moved word place (place + lowest) (omega arith)
      ∙ ap (λ i. bit_at (word / 2 ^ place) i) here ∙ lowest_is.1

  -- and it is one of the 64.
  pub first-within : place + lowest ≤ 64
  first-within =
      elim (cases_lt (place + lowest) 64) [
        | inl low ↦ omega (arith, low)
        | inr high ↦ absurd (omega (arith, first-found, bit_at_above word 64 (place + lowest) small high))
      ]

-- A bit of a word that is turned over.
turned : (b : ℕ) → b < 2 → (1 - b == 1) ≡ not (b == 1)
turned b low =
    elim (cases_lt b 1) [
      | inl zero_bit ↦ let e : b ≡ 0 = omega (arith, zero_bit) in rw e refl
      | inr one_bit ↦ let e : b ≡ 1 = omega (arith, one_bit, low) in rw e refl
    ]

-- What a word tells, turned over.
pub bit-turned : (word i : ℕ) (held : Bool) → word < 2 ^ 64 → i < 64 → (bit_at word i == 1) ≡ held
    → (bit_at (bit_not w64 word) i == 1) ≡ not held
bit-turned word i held small low is =
    ap (λ b. b == 1) (bit_at_not w64 word i small low) ∙ turned (bit_at word i) (bit_at-lt word i) ∙ ap not is

-- A router that isn't sought is in, or isn't, as is not asked.
other : (inside held : Bool) → is_sought inside held ≡ false → held ≡ not inside
other true held is = is
other false true is = refl
other false false is = absurd (cc)

-- The routers of a word, by whether each is sought.
abbrev pub HasSought : List Bool → Bool → ℕ → ℕ → Type 0
HasSought side inside place word = HasBits word (λ i. is_sought inside (slice_index_or side (64 * place + i) false))

-- Where no bit is set from a router's own up to another one, none of these routers is sought.
pub word_others : (side : List Bool) (inside : Bool) (router bit word : ℕ)
    → HasSought side inside (router / 64) word → bit ≤ 64
    → ((i : ℕ) → router % 64 ≤ i → i < bit → bit_at word i ≡ 0)
    → AreOthers side inside router (router - router % 64 + bit)
word_others side inside router bit word bits low none r behind before within =
    let i = r - (router - router % 64) in
    let first : 64 * (router / 64) + router % 64 ≡ router = div-add-mod router 64 in
    let here : 64 * (router / 64) + i ≡ r = omega (arith, first, behind) in
    let zero_bit = none i (omega (arith, first, behind)) (omega (arith, first, behind, before)) in
    let is = bits i (omega (arith, first, behind, before, low)) in
    let out = other inside (slice_index_or side (64 * (router / 64) + i) false) (sym is ∙ ap (λ b. b == 1) zero_bit) in
    ap (λ k. slice_index_or side k false) (sym here) ∙ out

-- Routers that aren't sought, in two stretches.
pub others_on : (side : List Bool) (inside : Bool) (from mid to : ℕ) → AreOthers side inside from mid
    → AreOthers side inside mid to → AreOthers side inside from to
others_on side inside from mid to front rest r behind before within =
    elim (cases_lt r mid) [
      | inl early ↦ front r behind early within
      | inr late ↦ rest r late before within
    ]
