-- The places of names as names are added.
use Rattle.std.proofs.Common.{◌≡◌, ℕ, ◌<◌, ◌≤◌, List, [], ◌∷◌, Bool, true, false, not}
use Rattle.std.proofs.Common.{length, refl, inl, inr, arith, length-append}
use Rattle.std.specs.List.{list_any, position_or_len}
use Rattle.std.specs.Str.{bytes_eq}
use Rattle.std.proofs.Math.Dec.{eqb}
use Rattle.std.proofs.lemmas.Bool.{cases_Bool, eqb-true, ne_eqb}
use Rattle.std.proofs.lemmas.List.Folds.{position_or_len_push}
use Rattle.std.proofs.lemmas.List.Sums.{prefix_len-le-length}
use Rattle.std.proofs.lemmas.Slice.Eq.{bytes_eq-Decides}
use Rattle.network_text.specs.Texts.{with_name, with_ends, place_of}

-- Where some element passes, the first that does has a place.
pub place-below : (p : List ℕ → Bool) (xs : List (List ℕ)) → list_any p xs ≡ true → position_or_len p xs < length xs
place-below p [] any = absurd (cc)
place-below p (x ∷ xs) any =
    elim (cases_Bool (p x)) [
      | inl e ↦ rw e (omega arith)
      | inr e ↦ let below = place-below p xs (rw e at any) in rw e (omega arith)
    ]

-- A name is the same as itself.
own : (name : List ℕ) → bytes_eq name name ≡ true
own name = (bytes_eq-Decides name name).1 refl

-- Adding a name never takes one away.
pub length-with_name : (names : List (List ℕ)) (name : List ℕ) → length names ≤ length (with_name names name)
length-with_name names name =
    elim (cases_Bool (list_any (bytes_eq name) names)) [
      | inl e ↦ rw e (omega arith)
      | inr e ↦ rw e (omega (arith, length-append names (name ∷ [])))
    ]

-- Adding a name doesn't change its own place,
pub place_of-own : (names : List (List ℕ)) (name : List ℕ) → place_of (with_name names name) name ≡ place_of names name
place_of-own names name =
    elim (cases_Bool (list_any (bytes_eq name) names)) [
      | inl e ↦ rw e refl
      | inr e ↦ rw (e, position_or_len_push (bytes_eq name) names name, own name) (
          elim (cases_Bool (eqb (place_of names name) (length names))) [
            | inl last ↦ rw last (omega (arith, eqb-true _ _ last))
            | inr within ↦ rw within refl
          ])
    ]

-- nor that of another name which is there.
pub place_of-kept : (names : List (List ℕ)) (name other : List ℕ) → place_of names name < length names
    → place_of (with_name names other) name ≡ place_of names name
place_of-kept names name other below =
    elim (cases_Bool (list_any (bytes_eq other) names)) [
      | inl e ↦ rw e refl
      | inr e ↦
          let within : eqb (place_of names name) (length names) ≡ false = ne_eqb _ _ (λ last. omega arith) in
          rw (e, position_or_len_push (bytes_eq name) names other, within) refl
    ]

-- A name that was added has a place.
pub place_of-below : (names : List (List ℕ)) (name : List ℕ)
    → place_of (with_name names name) name < length (with_name names name)
place_of-below names name =
    elim (cases_Bool (list_any (bytes_eq name) names)) [
      | inl e ↦ rw e (place-below (bytes_eq name) names e)
      | inr e ↦
          let place : place_of (with_name names name) name ≡ place_of names name = place_of-own names name in
          let most = prefix_len-le-length (λ x. not (bytes_eq name x)) names in
          rw e (let last = rw e at place in omega (arith, last, most, length-append names (name ∷ [])))
    ]

-- The first name of a link has a place among the names after it,
pub first-below : (names : List (List ℕ)) (first second : List ℕ)
    → place_of (with_ends names first second) first < length (with_ends names first second)
first-below names first second =
    let below = place_of-below names first in
    let kept = place_of-kept (with_name names first) first second below in
    let grown = length-with_name (with_name names first) second in omega (arith, below, kept, grown)

-- and so has the second.
pub second-below : (names : List (List ℕ)) (first second : List ℕ)
    → place_of (with_ends names first second) second < length (with_ends names first second)
second-below names first second = place_of-below (with_name names first) second
