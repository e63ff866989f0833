-- Tests of the numbers of a range.
use Rattle.std.proofs.Common.{◌≡◌, inl, inr, ℕ, zero, suc, ◌+◌, ◌<◌, ◌≤◌, Bool, true, false, sym, ◌∙◌, arith, refl}
use Rattle.std.proofs.Math.Bool.{and-false}
use Rattle.std.proofs.lemmas.Bool.{cases_Bool, cases_eq, false≢true, or_parts}
use Rattle.std.specs.List.{list_all, list_any, range_with_len}

-- where each number passes, all do
pub all_in_range : (P : ℕ → Bool) (a n : ℕ) → ((r : ℕ) → a ≤ r → r < a + n → P r ≡ true)
    → list_all P (range_with_len a n) ≡ true
all_in_range P a zero each = refl
all_in_range P a (suc n) each =
    rw (each a (omega arith) (omega arith))
    (all_in_range P (a + 1) n (λ r from to. each r (omega arith) (omega arith)))

-- where one fails, not all do
pub one_fails : (P : ℕ → Bool) (a n r : ℕ) → a ≤ r → r < a + n → P r ≡ false
    → list_all P (range_with_len a n) ≡ false
one_fails P a zero r from to fails = absurd (omega arith)
one_fails P a (suc n) r from to fails = elim (cases_eq r a) [
  | inl e ↦ rw (rw e at fails) refl
  | inr ne ↦ rw (one_fails P (a + 1) n r (omega (arith, ne)) (omega arith) fails) (and-false (P a))
]

-- so where all do, each does
pub each_passes : (P : ℕ → Bool) (n : ℕ) → list_all P (range_with_len 0 n) ≡ true → (r : ℕ) → r < n
    → P r ≡ true
each_passes P n all r low = elim (cases_Bool (P r)) [
  | inl passes ↦ passes
  | inr fails ↦ absurd (false≢true (sym (one_fails P 0 n r (omega arith) (omega arith) fails) ∙ all))
]

-- and where none passes, each fails
pub each_fails_from : (P : ℕ → Bool) (a n : ℕ) → list_any P (range_with_len a n) ≡ false → (r : ℕ) → a ≤ r → r < a + n
    → P r ≡ false
each_fails_from P a zero none r from to = absurd (omega arith)
each_fails_from P a (suc n) none r from to =
    elim (cases_eq r a) [
      | inl e ↦ rw e (or_parts (P a) (list_any P (range_with_len (a + 1) n)) none).0
      | inr ne ↦
          each_fails_from P (a + 1) n (or_parts (P a) (list_any P (range_with_len (a + 1) n)) none).1 r
          (omega (arith, ne)) (omega arith)
    ]

-- tests that are alike on a range are so of all
pub all_alike : (P Q : ℕ → Bool) (a n : ℕ) → ((r : ℕ) → r < a + n → P r ≡ Q r)
    → list_all P (range_with_len a n) ≡ list_all Q (range_with_len a n)
all_alike P Q a zero same = refl
all_alike P Q a (suc n) same =
    rw (same a (omega arith), all_alike P Q (a + 1) n (λ r to. same r (omega arith))) refl
