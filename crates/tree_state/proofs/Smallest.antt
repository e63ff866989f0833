-- The smallest number of a set by a table.
use Rattle.std.proofs.Common.{◌≡◌, ◌⊎◌, inl, inr, ℕ, zero, suc, ◌<◌, ◌≤◌, true, false, sym, ◌∙◌, ap, arith}
use Rattle.std.proofs.lemmas.Bool.{cases_Bool, cases_eq, cases_lt, false≢true}
use Rattle.cut_model.specs.Cuts.{RouterSet}
use Rattle.tree_state.specs.Tables.{Table}

-- Of the numbers below n in a set, c has the smallest value, and is the first of these.
pub record IsSmallest (P : RouterSet) (value : Table) (n c : ℕ) : Type 0 where
  pub low : c < n
  pub inside : P c ≡ true
  pub least : (e : ℕ) → e < n → P e ≡ true → value c ≤ value e
  pub first : (e : ℕ) → e < n → P e ≡ true → value e ≡ value c → c ≤ e

-- where n alone is in the set, it is the smallest
smallest-alone : (P : RouterSet) (value : Table) (n : ℕ) → ((e : ℕ) → e < n → P e ≡ false) → P n ≡ true
    → IsSmallest P value (suc n) n
smallest-alone P value n none inside = record {
  low = omega arith;
  inside = inside;
  least = λ e low holds. let same : value e ≡ value n = ap value (only e low holds) in omega arith;
  first = λ e low holds same. let here : e ≡ n = only e low holds in omega arith;
}
  where
    only : (e : ℕ) → e < suc n → P e ≡ true → e ≡ n
    only e low holds = elim (cases_eq e n) [
      | inl here ↦ here
      | inr other ↦ absurd (false≢true (sym (none e (omega arith)) ∙ holds))
    ]

-- the smallest stays so where n isn't in the set or isn't smaller
smallest-stays : (P : RouterSet) (value : Table) (n c : ℕ) → IsSmallest P value n c
    → (P n ≡ true → value c ≤ value n) → IsSmallest P value (suc n) c
smallest-stays P value n c before at_n = record {
  low = omega (arith, before.low);
  inside = before.inside;
  least = λ e low holds. elim (cases_eq e n) [
    | inl here ↦ rw here (at_n (rw here at holds))
    | inr other ↦ before.least e (omega arith) holds
  ];
  first = λ e low holds same. elim (cases_eq e n) [
    | inl here ↦ omega (arith, before.low)
    | inr other ↦ before.first e (omega arith) holds same
  ];
}

-- and gives way to n where n is smaller
smallest-next : (P : RouterSet) (value : Table) (n c : ℕ) → IsSmallest P value n c → P n ≡ true
    → value n < value c → IsSmallest P value (suc n) n
smallest-next P value n c before inside smaller = record {
  low = omega arith;
  inside = inside;
  least = λ e low holds. elim (cases_eq e n) [
    | inl here ↦ (let same : value e ≡ value n = ap value here in omega arith)
    | inr other ↦ omega (arith, before.least e (omega arith) holds)
  ];
  first = λ e low holds same. elim (cases_eq e n) [
    | inl here ↦ omega arith
    | inr other ↦ absurd (let more : value c ≤ value e = before.least e (omega arith) holds in omega arith)
  ];
}

-- a set has a smallest number, or none below n
pub smallest : (P : RouterSet) (value : Table) (n : ℕ)
    → ((c : ℕ) × IsSmallest P value n c) ⊎ ((e : ℕ) → e < n → P e ≡ false)
smallest P value zero = inr (λ e low. absurd (omega arith))
smallest P value (suc n) = elim (smallest P value n) [
  | inr none ↦ elim (cases_Bool (P n)) [
    | inl inside ↦ inl (n, smallest-alone P value n none inside)
    | inr out ↦ inr (λ e low. elim (cases_eq e n) [
      | inl here ↦ ap P here ∙ out
      | inr other ↦ none e (omega arith)
    ])
  ]
  | inl found ↦ elim (cases_Bool (P n)) [
    | inr out ↦
        inl (found.0, smallest-stays P value n found.0 found.1 (λ inside. absurd (false≢true (sym out ∙ inside))))
    | inl inside ↦ elim (cases_lt (value n) (value found.0)) [
      | inl smaller ↦ inl (n, smallest-next P value n found.0 found.1 inside smaller)
      | inr larger ↦ inl (found.0, smallest-stays P value n found.0 found.1 (λ _. larger))
    ]
  ]
]
