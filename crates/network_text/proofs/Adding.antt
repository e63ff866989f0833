-- What a line adds to the names and links of a text.
use Rattle.std.proofs.Common.{◌≡◌, ◌≢◌, ℕ, ◌-◌, ◌^◌, ◌<◌, ◌≤◌, List, [], ◌∷◌, ◌++◌, true, min, nat_lt}
use Rattle.std.proofs.Common.{length, length-append}
use Rattle.std.proofs.Common.{Option, Some, None, refl, sym, ap, ◌∙◌, inl, inr, arith}
use Rattle.std.specs.List.{list_any}
use Rattle.std.proofs.lemmas.List.Folds.{list_any_at}
use Rattle.std.proofs.lemmas.List.Quantifiers.{position-Some}
use Rattle.std.proofs.lemmas.List.Sums.{position_or_len_is}
use Rattle.std.specs.Str.{bytes_eq}
use Rattle.std.specs.Option.{option_map}
use Rattle.std.proofs.lemmas.Bool.{cases_Bool, ltb-true, ltb-false, lt-ltb}
use Rattle.cut_model.specs.declared.network.TheConstants.{MOST_CAPACITY, MOST_ROUTERS}
use Rattle.text_forms.specs.Names.{is_name}
use Rattle.text_forms.specs.Numbers.{number_in}
use Rattle.network_text.specs.Texts.{Draft, with_name, place_of, with_link, with_capacity, link_line}
use Rattle.network_text.specs.Sheets.{number_of}
use Rattle.network_text.proofs.Places.{place-below, place_of-own}

-- A name that is taken in at the end where it is new has its place,
pub placed : (keys new : List (List ℕ)) (name : List ℕ) (place : ℕ) → new ≡ with_name keys name
    → place ≡ place_of keys name → place ≡ place_of new name
placed keys new name place e at = at ∙ sym (place_of-own keys name) ∙ ap (λ names. place_of names name) (sym e)

-- and one at most is added.
pub inserted-few : (keys new : List (List ℕ)) (name : List ℕ) → new ≡ with_name keys name
    → length keys ≤ MOST_ROUTERS → length keys ≢ MOST_ROUTERS → length new ≤ MOST_ROUTERS
inserted-few keys new name e few less =
    elim (cases_Bool (list_any (bytes_eq name) keys)) [
      | inl there ↦ omega (arith, ap length (rw there at e))
      | inr new_name ↦ omega (arith, ap length (rw new_name at e), length-append keys (name ∷ []))
    ]

-- Among as many names as a network may have, one that is found is there already,
pub known : (keys : List (List ℕ)) (name : List ℕ) (place : ℕ) → number_of keys name ≡ Some place
    → (keys ≡ with_name keys name) × (place ≡ place_of keys name) × (place < length keys)
known keys name place is =
    let found = position-Some (bytes_eq name) keys place [] is in
    let there = list_any_at (bytes_eq name) keys place [] found.0 found.1 in (
      rw there refl,
      sym (position_or_len_is (bytes_eq name) keys place [] (omega (arith, found.0)) found.2 (λ _. found.1)),
      found.0,
    )

-- and one that isn't would be one too many.
pub unknown : (keys : List (List ℕ)) (name : List ℕ) → length keys ≡ MOST_ROUTERS → number_of keys name ≡ None
    → nat_lt MOST_ROUTERS (length (with_name keys name)) ≡ true
unknown keys name full is =
    elim (cases_Bool (list_any (bytes_eq name) keys)) [
      | inl there ↦
          let below = lt-ltb _ _ (place-below (bytes_eq name) keys there) in absurd (let some = rw below at is in cc)
      | inr new ↦
          let more : MOST_ROUTERS < length (keys ++ name ∷ []) = omega (arith, length-append keys (name ∷ [])) in
          rw new (lt-ltb MOST_ROUTERS (length (keys ++ name ∷ [])) more)
    ]

-- A capacity that is too large may be told as any that is.
with_link-too_large : (draft : Draft) (first second : List ℕ) (cap other : ℕ)
    → MOST_CAPACITY < cap → MOST_CAPACITY < other
    → with_link draft first second cap ≡ with_link draft first second other
with_link-too_large draft first second cap other large also =
    let cap_test : nat_lt MOST_CAPACITY cap ≡ true = lt-ltb _ _ large in
    let other_test : nat_lt MOST_CAPACITY other ≡ true = lt-ltb _ _ also in
    rw (cap_test, other_test) refl

-- So a number past 64 bits may be told as the largest of 64 bits.
with_link-capped : (draft : Draft) (first second : List ℕ) (cap : ℕ)
    → with_link draft first second cap ≡ with_link draft first second (min (2 ^ 64 - 1) cap)
with_link-capped draft first second cap =
    elim (cases_Bool (nat_lt (2 ^ 64 - 1) cap)) [
      | inl past ↦ with_link-too_large draft first second cap (min (2 ^ 64 - 1) cap)
          (let h = ltb-true _ _ past in omega arith) (let h = ltb-true _ _ past in omega arith)
      | inr fits ↦
          let same : cap ≡ min (2 ^ 64 - 1) cap = (let h = ltb-false _ _ fits in omega arith) in
          ap (λ n. with_link draft first second n) same
    ]

-- The same of the number that may stand in its place.
with_capacity-capped : (draft : Draft) (first second : List ℕ) (number : Option ℕ) (cap : ℕ)
    → Some cap ≡ option_map (min (2 ^ 64 - 1)) number
    → with_capacity draft first second number ≡ with_link draft first second cap
with_capacity-capped draft first second None cap e = absurd (cc)
with_capacity-capped draft first second (Some value) cap e =
    let capped : min (2 ^ 64 - 1) value ≡ cap = cc in
    with_link-capped draft first second value ∙ ap (λ n. with_link draft first second n) capped

-- Two names and a number are the link that they say.
pub link_line-with_link : (draft : Draft) (words : List (List ℕ)) (first second number : List ℕ) (cap : ℕ)
    → words ≡ first ∷ second ∷ number ∷ [] → is_name first ≡ true → is_name second ≡ true
    → Some cap ≡ option_map (min (2 ^ 64 - 1)) (number_in number)
    → link_line draft words ≡ with_link draft first second cap
link_line-with_link draft words first second number cap e is_first is_second value =
    ap (λ all. link_line draft all) e
    ∙ rw (is_first, is_second) (with_capacity-capped draft first second (number_in number) cap value)
