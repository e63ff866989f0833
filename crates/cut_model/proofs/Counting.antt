-- How many of the numbers below a bound a set holds.
use Rattle.std.proofs.Common.{◌≡◌, ◌≢◌, inl, inr, ℕ, zero, suc, ◌+◌, ◌<◌, ◌≤◌, true, false, cond, ◌||◌}
use Rattle.std.proofs.Common.{sym, ap, refl, arith}
use Rattle.std.proofs.lemmas.Bool.{cases_Bool, cases_eq, eq-eqb, ne_eqb}
use Rattle.std.specs.Prelude.{◌==◌}
use Rattle.cut_model.specs.Cuts.{RouterSet}
use Rattle.cut_model.specs.Terminals.{number_in}

-- A set with one more number.
unfoldable pub with_number : ℕ → RouterSet → RouterSet
with_number s X i = (i == s) || X i

-- it holds that number
pub with_number-same : (s : ℕ) (X : RouterSet) → with_number s X s ≡ true
unfolding with_number
with_number-same s X = rw (eq-eqb s s refl) refl

-- and of all others those that the set holds
pub with_number-other : (s : ℕ) (X : RouterSet) (i : ℕ) → i ≢ s → with_number s X i ≡ X i
unfolding with_number
with_number-other s X i ne = rw (ne_eqb i s ne) refl

-- an empty set holds none
pub number_in-none : (X : RouterSet) → ((i : ℕ) → X i ≡ false) → (n : ℕ) → number_in X n ≡ 0
unfolding number_in
number_in-none X none zero = refl
number_in-none X none (suc n) = rw (none n) (omega (arith, number_in-none X none n))

-- where all numbers below n are in a set, it holds n of them
pub number_in-all : (X : RouterSet) (n : ℕ) → ((r : ℕ) → r < n → X r ≡ true) → number_in X n ≡ n
unfolding number_in
number_in-all X zero all = refl
number_in-all X (suc n) all =
    rw (all n (omega arith)) (omega (arith, number_in-all X n (λ r low. all r (omega arith))))

-- at most n numbers lie below n
pub number_in-le : (X : RouterSet) (n : ℕ) → number_in X n ≤ n
unfolding number_in
number_in-le X zero = omega arith
number_in-le X (suc n) = grind (arith, cases_Bool (X n), number_in-le X n)

-- and fewer where the set lacks one of them
pub number_in-lt : (X : RouterSet) (r n : ℕ) → X r ≡ false → r < n → number_in X n < n
unfolding number_in
number_in-lt X r zero lacks low = absurd (omega arith)
number_in-lt X r (suc n) lacks low = elim (cases_eq r n) [
  | inl e ↦ (let here : X n ≡ false = rw e at lacks in rw here (omega (arith, number_in-le X n)))
  | inr ne ↦ (let fewer : number_in X n < n = number_in-lt X r n lacks (omega arith) in
      grind (arith, cases_Bool (X n), fewer))
]

-- sets that agree below n hold equally many
pub number_in-same : (X Y : RouterSet) (n : ℕ) → ((i : ℕ) → i < n → X i ≡ Y i) → number_in X n ≡ number_in Y n
unfolding number_in
number_in-same X Y zero same = refl
number_in-same X Y (suc n) same =
    rw (same n (omega arith)) (ap (λ (m : ℕ). cond (Y n) 1 0 + m)
    (number_in-same X Y n (λ i low. same i (omega arith))))

-- a new number makes it one more
pub number_in-new : (X : RouterSet) (s n : ℕ) → X s ≡ false → s < n → number_in (with_number s X) n ≡ suc (number_in X n)
unfolding number_in
number_in-new X s zero lacks low = absurd (omega arith)
number_in-new X s (suc n) lacks low = elim (cases_eq s n) [
  | inl e ↦ (let here : X n ≡ false = rw e at lacks in
      let new : with_number s X n ≡ true = rw e (with_number-same n X) in
      let rest : number_in (with_number s X) n ≡ number_in X n
          = number_in-same (with_number s X) X n (λ i lower. with_number-other s X i (λ q. omega arith)) in
      rw (here, new) (omega (arith, rest)))
  | inr ne ↦ rw (with_number-other s X n (λ q. ne (sym q)))
      (omega (arith, number_in-new X s n lacks (omega arith)))
]
