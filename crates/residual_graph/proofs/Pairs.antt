-- Two numbers a link, written link by link.
use Rattle.std.proofs.Common.{◌≡◌, ◌≢◌, ℕ, ◌+◌, ◌-◌, ◌*◌, ◌<◌, ◌≤◌, List, length, get_or}
use Rattle.std.proofs.Common.{set, drop, sym, ap, ◌∙◌, inl, inr, subst, arith, length-drop}
use Rattle.std.proofs.lemmas.Bool.{cases_eq}
use Rattle.std.proofs.lemmas.List.{get_or-set_same, get_or-set_other, get_or-drop, length-set}
use Rattle.cut_model.specs.declared.network.Link.{Link}
use Rattle.residual_graph.specs.Arcs.{no_link}
use Rattle.residual_graph.specs.Fills.{HasCap, HasCapsBut}

-- two numbers are written for one link
abbrev pub with_pair : List ℕ → ℕ → ℕ → ℕ → List ℕ
with_pair xs i x y = set (set xs (2 * i) x) (2 * i + 1) y

-- the first of them stands at its place
pair-first : (xs : List ℕ) (i x y : ℕ) → 2 * i + 1 < length xs → get_or (with_pair xs i x y) (2 * i) 0 ≡ x
pair-first xs i x y within =
    get_or-set_other (set xs (2 * i) x) (2 * i + 1) (2 * i) y 0 (λ e. omega arith)
    ∙ get_or-set_same xs (2 * i) x 0 (omega arith)

-- so does the second
pair-second : (xs : List ℕ) (i x y : ℕ) → 2 * i + 1 < length xs → get_or (with_pair xs i x y) (2 * i + 1) 0 ≡ y
pair-second xs i x y within = get_or-set_same (set xs (2 * i) x) (2 * i + 1) y 0
    (omega (arith, length-set xs (2 * i) x))

-- and all others stay
pair-other : (xs : List ℕ) (i x y j : ℕ) → j ≢ 2 * i → j ≢ 2 * i + 1 → get_or (with_pair xs i x y) j 0 ≡ get_or xs j 0
pair-other xs i x y j here there =
    get_or-set_other (set xs (2 * i) x) (2 * i + 1) j y 0 there ∙ get_or-set_other xs (2 * i) j x 0 here

-- both arcs of one link with its whole capacity
abbrev pub with_cap : List Link → List ℕ → ℕ → List ℕ
with_cap links left i = with_pair left i (get_or links i no_link).cap (get_or links i no_link).cap

-- that link has it then
cap-here : (links : List Link) (left : List ℕ) (i : ℕ) → 2 * i + 1 < length left
    → HasCap links (with_cap links left i) i
cap-here links left i within = record {
  there = pair-first left i (get_or links i no_link).cap (get_or links i no_link).cap within;
  back = pair-second left i (get_or links i no_link).cap (get_or links i no_link).cap within;
}

-- and each other link that had it has it
pub cap-other : (links : List Link) (left : List ℕ) (i x y k : ℕ) → k ≢ i → HasCap links left k
    → HasCap links (with_pair left i x y) k
cap-other links left i x y k ne was = record {
  there = pair-other left i x y (2 * k) (λ e. ne (omega arith)) (λ e. omega arith) ∙ was.there;
  back = pair-other left i x y (2 * k + 1) (λ e. omega arith) (λ e. ne (omega arith)) ∙ was.back;
}

-- the capacities of one link more
pub caps-more : (links : List Link) (left : List ℕ) (i : ℕ) → 2 * i + 1 < length left
    → ((k : ℕ) → k < i → HasCap links left k)
    → (k : ℕ) → k < i + 1 → HasCap links (with_cap links left i) k
caps-more links left i within before k low = elim (cases_eq k i) [
  | inl e ↦ subst (λ j. HasCap links (with_cap links left i) j) (sym e) (cap-here links left i within)
  | inr ne ↦ cap-other links left i _ _ k ne (before k (omega arith))
]

-- a listed link is the first one or is listed behind it
among-rest : (list : List ℕ) (n i m : ℕ) → n < length list → m < length (drop n list)
    → get_or (drop n list) m 0 ≡ i → i ≢ get_or list n 0
    → (k : ℕ) × (k < length (drop (n + 1) list)) × (get_or (drop (n + 1) list) k 0 ≡ i)
among-rest list n i m within inside is ne = elim (cases_eq m 0) [
  | inl e ↦
      let first : n + m ≡ n = omega arith in
      absurd (ne (sym is ∙ get_or-drop n list m 0 ∙ ap (λ j. get_or list j 0) first))
  | inr some ↦
      let same : n + 1 + (m - 1) ≡ n + m = omega arith in (
        m - 1,
        omega (arith, length-drop n list, length-drop (n + 1) list),
        get_or-drop (n + 1) list (m - 1) 0 ∙ ap (λ j. get_or list j 0) same ∙ sym (get_or-drop n list m 0) ∙ is,
      )
]

-- the capacities of the first listed link more
pub caps-but-fewer : (links : List Link) (left list : List ℕ) (n : ℕ) → n < length list
    → 2 * get_or list n 0 + 1 < length left → HasCapsBut links left (drop n list)
    → HasCapsBut links (with_cap links left (get_or list n 0)) (drop (n + 1) list)
caps-but-fewer links left list n within room before i low = elim (cases_eq i (get_or list n 0)) [
  | inl e ↦
      inl (subst (λ j. HasCap links (with_cap links left (get_or list n 0)) j) (sym e)
      (cap-here links left (get_or list n 0) room))
  | inr ne ↦ elim (before i low) [
    | inl has ↦ inl (cap-other links left (get_or list n 0) _ _ i ne has)
    | inr listed ↦ inr (among-rest list n i listed.0 within listed.1 listed.2 ne)
  ]
]

-- where none is listed, all have them
pub caps-but-none : (links : List Link) (left list : List ℕ) (n : ℕ) → length list ≤ n
    → HasCapsBut links left (drop n list) → (i : ℕ) → i < length links → HasCap links left i
caps-but-none links left list n past before i low = elim (before i low) [
  | inl has ↦ has
  | inr listed ↦ absurd (omega (arith, listed.1, length-drop n list))
]
