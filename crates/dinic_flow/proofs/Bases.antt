-- Labels on top of a base: one that is given, and a base that rises past all numbers.
use Rattle.std.proofs.Common.{◌≡◌, ℕ, ◌+◌, ◌-◌, ◌<◌, ◌≤◌, List, [], ◌∷◌, length, get_or, set, replicate}
use Rattle.std.proofs.Common.{suc, ◌∙◌, ap, arith, refl}
use Rattle.std.proofs.lemmas.List.{map-set, get_or-map}
use Rattle.dinic_flow.specs.Labels.{labels_above}

-- A label is what its number is above the base.
pub labels_above-set : (base : ℕ) (numbers : List ℕ) (router label : ℕ) →
    labels_above base (set numbers router (base + label)) ≡ set (labels_above base numbers) router label
labels_above-set base numbers router label =
    let left : base + label - base ≡ label = omega arith in
    map-set (λ (n : ℕ). n - base) numbers router (base + label)
    ∙ ap (λ (n : ℕ). set (labels_above base numbers) router n) left

-- Above a base that no number exceeds there are no labels.
pub labels_above-none : (base : ℕ) (numbers : List ℕ) →
    ((i : ℕ) → i < length numbers → get_or numbers i 0 ≤ base) →
    labels_above base numbers ≡ replicate (length numbers) 0
labels_above-none base [] low = refl
labels_above-none base (x ∷ xs) low =
    let first : x - base ≡ 0 = omega (arith, low 0 (omega arith)) in
    let rest : labels_above base xs ≡ replicate (length xs) 0 =
    labels_above-none base xs (λ i within. low (suc i) (omega (arith, within))) in
    rw (first, rest) refl

-- Where no number is farther above the base, no label is greater.
pub labels_above-most : (base : ℕ) (numbers : List ℕ) (most router : ℕ) → router < length numbers →
    get_or numbers router 0 ≤ base + most → get_or (labels_above base numbers) router 0 ≤ most
labels_above-most base numbers most router within low =
    omega (arith, get_or-map (λ (n : ℕ). n - base) numbers router 0 0 within, low)
