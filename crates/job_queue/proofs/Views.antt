-- What all passes know, where one of them changes, and where one has every part.
use Rattle.std.proofs.Common.{◌≡◌, ◌≢◌, ℕ, zero, suc, Bool, true, false, List, [], ◌∷◌, set, sym, refl, ap, ◌∙◌}
use Rattle.std.proofs.Common.{subst, ◌||◌, ◌⊎◌, inl, inr, ⊎_elim, arith}
use mathlib.Core.Option.{some, some-ne-none, some-injective}
use lib.ListN.{get_elem?}
use Rattle.crossbeam_queue.proofs.Lists.{at_set, set_else}
use Rattle.job_queue.specs.declared.known.Known.{Known}
use Rattle.job_queue.specs.Rule.{spent}
use Rattle.job_queue.specs.Weights.{weigh}
use Rattle.job_queue.proofs.Weights.{le_weigh, weigh_set}

-- What holds of one changed member and of each other one holds of all.
pub all_set : (F : Known → Type 0) (views : List Known) (place : ℕ) (w : Known) → F w →
    ((j : ℕ) (u : Known) → j ≢ place → get_elem? views j ≡ some u → F u) →
    (j : ℕ) (u : Known) → get_elem? (set views place w) j ≡ some u → F u
all_set F views place w mine others j u at = ⊎_elim
    (λ (is : (j ≡ place) × (w ≡ u)). subst F is.1 mine)
    (λ (other : (j ≢ place) × (get_elem? views j ≡ some u)). others j u other.0 other.1)
    (at_set views place j w u at)

-- What a pass without a part weighs nothing in weighs nothing over passes without a part.
none_weigh : (f : Known → ℕ) (views : List Known) → weigh (λ u. u.parts) views ≡ 0 →
    ((j : ℕ) (u : Known) → get_elem? views j ≡ some u → u.parts ≡ 0 → f u ≡ 0) → weigh f views ≡ 0
none_weigh f [] none idle = refl
none_weigh f (x ∷ views) none idle =
    let z : x.parts ≡ 0 = omega arith in
    let h = idle 0 x refl z in
    let rest = none_weigh f views (omega arith) (λ j u at. idle (suc j) u at) in
    omega arith

-- Where one pass has every part, all passes weigh what it weighs.
pub sole_weigh : (f : Known → ℕ) (views : List Known) (place : ℕ) (v : Known) → get_elem? views place ≡ some v →
    weigh (λ u. u.parts) views ≡ v.parts →
    ((j : ℕ) (u : Known) → get_elem? views j ≡ some u → u.parts ≡ 0 → f u ≡ 0) → weigh f views ≡ f v
sole_weigh f [] place v at whole idle = absurd (some-ne-none v (sym at))
sole_weigh f (x ∷ views) zero v at whole idle =
    let e : x ≡ v = some-injective x v at in
    let p : x.parts ≡ v.parts = ap (λ (u : Known). u.parts) e in
    let q : f x ≡ f v = ap f e in
    let rest = none_weigh f views (omega arith) (λ j u there. idle (suc j) u there) in
    omega arith
sole_weigh f (x ∷ views) (suc place) v at whole idle =
    let l = le_weigh (λ (u : Known). u.parts) views place v at in
    let z : x.parts ≡ 0 = omega arith in
    let h = idle 0 x refl z in
    let rest = sole_weigh f views place v at (omega arith) (λ j u there. idle (suc j) u there) in
    omega arith

-- Where one pass has every part, each other one has none.
pub others_none : (views : List Known) (place : ℕ) (v : Known) → get_elem? views place ≡ some v →
    weigh (λ u. u.parts) views ≡ v.parts →
    (j : ℕ) (u : Known) → j ≢ place → get_elem? views j ≡ some u → u.parts ≡ 0
others_none views place v at whole j u other there =
    let s = weigh_set (λ (w : Known). w.parts) views place v spent at in
    let l = le_weigh (λ (w : Known). w.parts) (set views place spent) j u
    (set_else views place j spent other ∙ there) in
    omega arith

pub either_true : (a b : Bool) → a || b ≡ true → (a ≡ true) ⊎ (b ≡ true)
either_true true b e = inl refl
either_true false b e = inr e

pub not_true : (b : Bool) → (b ≡ true → ⊥) → b ≡ false
not_true true never = absurd (never refl)
not_true false never = refl
