-- The carriage return at the end of a line.
use Rattle.std.proofs.Common.{◌≡◌, ◌≢◌, ℕ, List, [], ◌∷◌, ◌++◌, refl, ap}
use Rattle.std.proofs.lemmas.Bool.{ne_eqb}
use Rattle.text_forms.specs.Words.{without_return}

-- a carriage return at the end is dropped
pub without_return-return : (front : List ℕ) → without_return (front ++ 13 ∷ []) ≡ front
without_return-return [] = refl
without_return-return (a ∷ []) = refl
without_return-return (a ∷ b ∷ front) = ap (λ bytes. a ∷ bytes) (without_return-return (b ∷ front))

-- another byte at the end stays
pub without_return-other : (front : List ℕ) (last : ℕ) → last ≢ 13
    → without_return (front ++ last ∷ []) ≡ front ++ last ∷ []
without_return-other [] last other = rw (ne_eqb last 13 other) refl
without_return-other (a ∷ []) last other = rw (ne_eqb last 13 other) refl
without_return-other (a ∷ b ∷ front) last other =
    ap (λ bytes. a ∷ bytes) (without_return-other (b ∷ front) last other)
