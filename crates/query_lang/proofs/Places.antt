-- The line of a place.
use Rattle.std.proofs.Common.{◌≡◌, ◌≢◌, ℕ, ◌+◌, ◌-◌, ◌<◌, List, [], ◌∷◌, length, map, refl, ap, ◌∙◌, arith}
use Rattle.std.proofs.Common.{add-one, get_or, slice_index_or}
use Rattle.std.proofs.lemmas.List.{get_or-map}

-- A line behind the first.
pub place_behind : (head : List ℕ) (lines : List (List ℕ)) (place : ℕ) → place ≢ 0
    → slice_index_or (head ∷ lines) place [] ≡ slice_index_or lines (place - 1) []
place_behind head lines place some =
    let next : place ≡ (place - 1) + 1 = omega arith in
    ap (λ (k : ℕ). get_or (head ∷ lines) k []) next ∙ rw add-one refl

-- The line of an element behind a first line.
pub place_of : {X : Type 0} (head : List ℕ) (line : X → List ℕ) (xs : List X) (place : ℕ) (d : X) → place ≢ 0
    → place - 1 < length xs → slice_index_or (head ∷ map line xs) place [] ≡ line (slice_index_or xs (place - 1) d)
place_of head line xs place d some within =
    place_behind head (map line xs) place some ∙ get_or-map line xs (place - 1) d [] within
