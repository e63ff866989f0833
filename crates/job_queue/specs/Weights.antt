-- Lists compared by what their members weigh.
use Rattle.std.specs.Prelude.{◌≡◌, ℕ, ◌+◌, List, [], ◌∷◌}

-- What the members of a list weigh together.
abbrev pub weigh : {X : Type 0} → (X → ℕ) → List X → ℕ
weigh weight [] = 0
weigh weight (x ∷ xs) = weight x + weigh weight xs

-- Two lists hold the same numbers, each of them as often: they weigh the same, whatever each number weighs.
abbrev pub HoldSame : List ℕ → List ℕ → Type 0
HoldSame xs ys = (weight : ℕ → ℕ) → weigh weight xs ≡ weigh weight ys
