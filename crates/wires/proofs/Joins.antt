-- The text of pieces, round one of them.
use Rattle.std.proofs.Common.{◌≡◌, ℕ, ◌+◌, ◌<◌, List, [], ◌∷◌, ◌++◌, length, take, drop, get_or, map, sym, ap}
use Rattle.std.proofs.Common.{◌∙◌, drop-cons, add-one}
use Rattle.std.proofs.lemmas.List.{append-nil, map-append, map_more, take-append-drop}
use Rattle.std.proofs.lemmas.List.Folds.{concat-append}
use Rattle.std.specs.List.{concat}

-- one piece more
pub concat_more : {X : Type 0} (f : X → List ℕ) (xs : List X) (i : ℕ) (d : X) → i < length xs
    → concat (map f (take (i + 1) xs)) ≡ concat (map f (take i xs)) ++ f (get_or xs i d)
concat_more f xs i d within =
    ap concat (map_more f xs i d within) ∙ concat-append (map f (take i xs)) (f (get_or xs i d) ∷ [])
    ∙ ap (λ l. concat (map f (take i xs)) ++ l) (append-nil (f (get_or xs i d)))

-- the pieces before one, that one, and those behind it
pub concat_around : {X : Type 0} (f : X → List ℕ) (xs : List X) (i : ℕ) (d : X) → i < length xs
    → concat (map f xs) ≡ concat (map f (take i xs)) ++ (f (get_or xs i d) ++ concat (map f (drop (i + 1) xs)))
concat_around f xs i d within =
    let parts : xs ≡ take i xs ++ get_or xs i d ∷ drop (i + 1) xs =
    sym (take-append-drop i xs) ∙ ap (λ l. take i xs ++ l) (rw add-one (drop-cons xs i d within)) in
    ap (λ l. concat (map f l)) parts ∙ ap concat (map-append f (take i xs) (get_or xs i d ∷ drop (i + 1) xs))
    ∙ concat-append (map f (take i xs)) (map f (get_or xs i d ∷ drop (i + 1) xs))
