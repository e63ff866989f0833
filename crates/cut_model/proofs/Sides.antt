-- What one word's change does to the truth values.
use Rattle.std.proofs.Common.{◌≡◌, ◌≢◌, ℕ, ◌+◌, ◌*◌, ◌/◌, ◌%◌, ◌^◌, ◌<◌, ◌≤◌, Bool, true}
use Rattle.std.proofs.Common.{false, cond, eqb, List, ◌++◌, take, drop, length, get_or, replicate, set, bit_and}
use Rattle.std.proofs.Common.{bit_or, count_ones, count_by, refl, sym, ap, ◌∙◌, subst, ⊎_elim, arith, w64}
use Rattle.std.proofs.lemmas.Bool.{cases_lt, cases_eq}
use Rattle.std.proofs.lemmas.Grind.{common_steps}
use Rattle.std.proofs.lemmas.List.{get_or-set_same, get_or-set_other, get_or-replicate, get_or_past, length-set}
use Rattle.std.proofs.lemmas.List.{length-replicate, ext_get_or, take_all, length-take, map-id}
use Rattle.std.proofs.lemmas.List.Sums.{sum_by-append, count_by-le-length}
use Rattle.std.proofs.lemmas.Nat.{or_lt}
use Rattle.std.proofs.lemmas.Nat.Bits.{bit_at_set_same, bit_at_set_other, bit_at_clear_same}
use Rattle.std.proofs.lemmas.Nat.Bits.{bit_at_clear_other, bit_at-zero, shr_and_one}
use Rattle.std.proofs.lemmas.Simd.{ones-mask_l}
use Rattle.std.proofs.Math.Seq.{take-add}
use Rattle.std.specs.Int.{bit_at, bit_not}
use Rattle.std.specs.Int.Bits.{and_lt}
use lib.Lanes.{mask_l}
use Rattle.cut_model.specs.Packing.{length-bits_of, get_or-bits_of, bit_of-at, words_of-bits_of, word_of-bits_of}
use Rattle.cut_model.specs.Side.{bit_of, bits_of, words_of, IsHeld}

-- ---- what a view says of the fields

-- the size is the number of truth values
pub size_is : (ws : List ℕ) (n : ℕ) (xs : List Bool) → bits_of ws n ≡ xs → n ≡ length xs
size_is ws n xs e = sym (length-bits_of ws n) ∙ ap length e

-- the bit that `has` looks at is the router's truth value
pub value_is : (ws : List ℕ) (n r : ℕ) (xs : List Bool) → IsHeld ws n → bits_of ws n ≡ xs
    → eqb (bit_and (get_or ws (r / 64) 0 / 2 ^ (r % 64)) 1) 1 ≡ get_or xs r false
value_is ws n r xs h e = ap (λ d. eqb d 1) (shr_and_one (get_or ws (r / 64) 0) (r % 64))
    ∙ sym (get_or-bits_of ws n r h) ∙ ap (λ ys. get_or ys r false) e

-- the bits of a word are the truth values of its routers
pub word_bits : (ws : List ℕ) (n k : ℕ) (xs : List Bool) → IsHeld ws n → bits_of ws n ≡ xs → (i : ℕ) → i < 64
    → eqb (bit_at (get_or ws k 0) i) 1 ≡ get_or xs (64 * k + i) false
word_bits ws n k xs h e i within = sym (bit_of-at ws k i within) ∙ sym (get_or-bits_of ws n (64 * k + i) h)
    ∙ ap (λ ys. get_or ys (64 * k + i) false) e

-- the words give a list of truth values that each bit agrees with
pub same_bits : (ws : List ℕ) (n : ℕ) (xs : List Bool) → IsHeld ws n → length xs ≡ n
    → ((r : ℕ) → r < n → bit_of ws r ≡ get_or xs r false) → bits_of ws n ≡ xs
same_bits ws n xs h e each = ext_get_or false (bits_of ws n) xs (length-bits_of ws n ∙ sym e)
    (λ r low. get_or-bits_of ws n r h ∙ each r (omega (arith, length-bits_of ws n)))

-- ---- one bit

-- With one word changed, router q is in or out as b says, and all others are as they were.
pub record IsChange (ws : List ℕ) (n q v : ℕ) (b : Bool) : Type 0 where
  pub held : IsHeld (set ws (q / 64) v) n
  pub view : bits_of (set ws (q / 64) v) n ≡ set (bits_of ws n) q b

-- the bits of other routers, where one word changes at one bit
bit_of-other : (ws : List ℕ) (q v r : ℕ) → q / 64 < length ws → r ≢ q
    → ((i : ℕ) → i < 64 → i ≢ q % 64 → bit_at v i ≡ bit_at (get_or ws (q / 64) 0) i)
    → bit_of (set ws (q / 64) v) r ≡ bit_of ws r
bit_of-other ws q v r within other same = grind (arith, common_steps, same (r % 64))

-- the changed bit itself
bit_of-same : (ws : List ℕ) (q v : ℕ) → q / 64 < length ws → bit_of (set ws (q / 64) v) q ≡ eqb (bit_at v (q % 64)) 1
bit_of-same ws q v within = rw get_or-set_same refl

-- the words still have 64 bits
fit-set : (ws : List ℕ) (k v : ℕ) → k < length ws → v < 2 ^ 64 → ((i : ℕ) → get_or ws i 0 < 2 ^ 64) → (i : ℕ)
    → get_or (set ws k v) i 0 < 2 ^ 64
fit-set ws k v within small fit i =
    ⊎_elim
    (λ e. subst (λ j. get_or (set ws k v) j 0 < 2 ^ 64) (sym e)
    (subst (λ x. x < 2 ^ 64) (sym (get_or-set_same ws k v 0 within)) small))
    (λ ne. subst (λ x. x < 2 ^ 64) (sym (get_or-set_other ws k i v 0 ne)) (fit i))
    (cases_eq i k)

-- a word changed at one bit alone changes one router alone
change : (ws : List ℕ) (n q v : ℕ) (b : Bool) → IsHeld ws n → q < n → v < 2 ^ 64 → eqb (bit_at v (q % 64)) 1 ≡ b
    → ((i : ℕ) → i < 64 → i ≢ q % 64 → bit_at v i ≡ bit_at (get_or ws (q / 64) 0) i) → IsChange ws n q v b
change ws n q v b h low small is others =
    let within : q / 64 < length ws = omega (arith, h.limit, h.sixteen) in
    let held : IsHeld (set ws (q / 64) v) n = record {
      limit = h.limit;
      sixteen = length-set ws (q / 64) v ∙ h.sixteen;
      fit = fit-set ws (q / 64) v within small h.fit;
      rest = λ r high. bit_of-other ws q v r within (omega arith) others ∙ h.rest r high;
    } in record {
      held = held;
      view = same_bits (set ws (q / 64) v) n (set (bits_of ws n) q b) held
          (length-set (bits_of ws n) q b ∙ length-bits_of ws n) (λ r lt.
          ⊎_elim
          (λ e. subst (λ j. bit_of (set ws (q / 64) v) j ≡ get_or (set (bits_of ws n) q b) j false) (sym e)
          (bit_of-same ws q v within ∙ is ∙ sym (get_or-set_same (bits_of ws n) q b false
          (omega (arith, length-bits_of ws n)))))
          (λ ne. bit_of-other ws q v r within ne others
          ∙ sym (get_or-set_other (bits_of ws n) q r b false ne ∙ get_or-bits_of ws n r h))
          (cases_eq r q));
    }

-- setting the bit puts the router in
pub put-change : (ws : List ℕ) (n q : ℕ) → IsHeld ws n → q < n
    → IsChange ws n q (bit_or (get_or ws (q / 64) 0) (1 * 2 ^ (q % 64) % 2 ^ 64)) true
put-change ws n q h low =
    let bit : q % 64 < 64 = omega arith in
    change ws n q _ true h low (or_lt 64 (get_or ws (q / 64) 0) (1 * 2 ^ (q % 64) % 2 ^ 64) (h.fit (q / 64))
    (omega arith))
    (ap (λ d. eqb d 1) (bit_at_set_same w64 (get_or ws (q / 64) 0) (q % 64) bit))
    (λ i within ne. bit_at_set_other w64 (get_or ws (q / 64) 0) (q % 64) bit i ne)

-- clearing the bit takes the router out
pub take_out-change : (ws : List ℕ) (n q : ℕ) → IsHeld ws n → q < n
    → IsChange ws n q (bit_and (get_or ws (q / 64) 0) (bit_not w64 (1 * 2 ^ (q % 64) % 2 ^ 64))) false
take_out-change ws n q h low =
    let bit : q % 64 < 64 = omega arith in
    change ws n q _ false h low (and_lt 64 (get_or ws (q / 64) 0) (bit_not w64 (1 * 2 ^ (q % 64) % 2 ^ 64))
    (h.fit (q / 64)) (omega arith))
    (ap (λ d. eqb d 1) (bit_at_clear_same w64 (get_or ws (q / 64) 0) (q % 64) bit))
    (λ i within ne. bit_at_clear_other w64 (get_or ws (q / 64) 0) (q % 64) bit i within ne)

-- ---- no bit

-- sixteen empty words
abbrev pub zeros : List ℕ
zeros = replicate 16 0

get_or-zeros : (i : ℕ) → get_or zeros i 0 ≡ 0
get_or-zeros i =
    ⊎_elim (λ low. get_or-replicate 16 i 0 0 low) (λ high. get_or_past zeros i 0
    (omega (arith, length-replicate {A = ℕ} 16 0))) (cases_lt i 16)

-- they hold no router
none : (r : ℕ) → bit_of zeros r ≡ false
none r = ap (λ w. eqb (bit_at w (r % 64)) 1) (get_or-zeros (r / 64)) ∙ ap (λ d. eqb d 1) (bit_at-zero (r % 64))

-- they hold a side of each size
pub empty-held : (n : ℕ) → n ≤ 1024 → IsHeld zeros n
empty-held n few = record {
  limit = few;
  sixteen = length-replicate {A = ℕ} 16 0;
  fit = λ i. subst (λ x. x < 2 ^ 64) (sym (get_or-zeros i)) (omega arith);
  rest = λ r high. none r;
}

-- which is the side of no router
pub empty-view : (n : ℕ) → n ≤ 1024 → bits_of zeros n ≡ replicate n false
empty-view n few =
    same_bits zeros n (replicate n false) (empty-held n few) (length-replicate n false)
    (λ r low. none r ∙ sym (get_or-replicate n r false false low))

-- ---- the count

-- the ones of a word are the routers in its part of the list
pub count_ones-word : (ws : List ℕ) (n k : ℕ) → IsHeld ws n
    → count_ones (get_or ws k 0) ≡ count_by (λ b. b) (take 64 (drop (64 * k) (bits_of ws n)))
count_ones-word ws n k h =
    let part = take 64 (drop (64 * k) (bits_of ws n)) in
    ap count_ones (word_of-bits_of ws n k h ∙ ap mask_l (sym (map-id part))) ∙ ones-mask_l (λ b. b) part

-- the count so far, with one word more
pub count-more : (ws : List ℕ) (n k sum : ℕ) (xs : List Bool) → IsHeld ws n → bits_of ws n ≡ xs
    → sum ≡ count_by (λ b. b) (take (64 * k) xs)
    → sum + count_ones (get_or ws k 0) ≡ count_by (λ b. b) (take (64 * (k + 1)) xs)
count-more ws n k sum xs h e is =
    let word : count_ones (get_or ws k 0) ≡ count_by (λ b. b) (take 64 (drop (64 * k) xs)) = count_ones-word ws n k h
    ∙ ap (λ ys. count_by (λ b. b) (take 64 (drop (64 * k) ys))) e in
    let next : 64 * (k + 1) ≡ 64 * k + 64 = omega arith in
    let both : take (64 * (k + 1)) xs ≡ take (64 * k) xs ++ take 64 (drop (64 * k) xs) = ap (λ m. take m xs) next
    ∙ take-add (64 * k) 64 xs in
    (λ i. is i + word i) ∙ sym (ap (count_by (λ b. b)) both
    ∙ sum_by-append (λ b. cond b 1 0) (take (64 * k) xs) (take 64 (drop (64 * k) xs)))

-- no count passes the greatest size
pub count-few : (ws : List ℕ) (n k : ℕ) (xs : List Bool) → IsHeld ws n → bits_of ws n ≡ xs
    → count_by (λ b. b) (take k xs) ≤ 1024
count-few ws n k xs h e = omega (
  arith,
  count_by-le-length (λ b. b) (take k xs),
  length-take k xs,
  size_is ws n xs e,
  h.limit,
)

-- all words together have all routers
pub count-all : (ws : List ℕ) (n k : ℕ) (xs : List Bool) → IsHeld ws n → bits_of ws n ≡ xs → 16 ≤ k
    → count_by (λ b. b) (take (64 * k) xs) ≡ count_by (λ b. b) xs
count-all ws n k xs h e end = ap (count_by (λ b. b)) (take_all (64 * k) xs (omega (arith, size_is ws n xs e, h.limit)))

-- ---- equal sides

-- equal lists of truth values come from equal words and sizes
pub same_fields : (a b : List ℕ) (n m : ℕ) (xs ys : List Bool) → IsHeld a n → IsHeld b m → bits_of a n ≡ xs
    → bits_of b m ≡ ys → xs ≡ ys → (a ≡ b) × (n ≡ m)
same_fields a b n m xs ys ha hb ea eb e = (
  sym (words_of-bits_of a n ha) ∙ ap words_of (ea ∙ e ∙ sym eb) ∙ words_of-bits_of b m hb,
  size_is a n xs ea
      ∙ ap length e ∙ sym (size_is b m ys eb),
)

-- and equal words and sizes give equal lists
pub same_views : (a b : List ℕ) (n m : ℕ) (xs ys : List Bool) → bits_of a n ≡ xs → bits_of b m ≡ ys → a ≡ b → n ≡ m
    → xs ≡ ys
same_views a b n m xs ys ea eb e f = sym ea ∙ (λ i. bits_of (e i) (f i)) ∙ eb
