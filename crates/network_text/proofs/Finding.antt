-- Routers found by their names.
use Rattle.std.proofs.Common.{◌≡◌, ℕ, List, [], Bool, false, Option, None, IsTrue}
use Rattle.std.proofs.Common.{IsFalse, length, position, get_or, refl, ap, ◌∙◌, inl, inr, arith}
use Rattle.std.specs.List.{All, position_or_len}
use Rattle.std.specs.Str.{bytes_eq}
use Rattle.std.proofs.lemmas.Bool.{cases_Bool, le-ltb}
use Rattle.std.proofs.lemmas.List.Sums.{position_or_len_is}
use Rattle.std.proofs.lemmas.Slice.Eq.{bytes_eq-Decides}
use Rattle.text_forms.specs.Names.{is_name}
use Rattle.network_text.specs.Sheets.{number_of}

-- Where no element passes there is no place.
pub position-none : (p : List ℕ → Bool) (xs : List (List ℕ)) → All (λ x. p x ≡ false) xs → position p xs ≡ None
position-none p xs none =
    let all : position_or_len p xs ≡ length xs =
    position_or_len_is p xs (length xs) [] (omega arith)
    (λ k below. none k [] below) (λ past. absurd (omega arith)) in
    rw (all, le-ltb (length xs) (length xs) (omega arith)) refl

-- What is no name is the name of no router.
pub number_of-no_name : (names : List (List ℕ)) (name : List ℕ) → All (λ n. IsTrue (is_name n)) names
    → IsFalse (is_name name) → number_of names name ≡ None
number_of-no_name names name named no_name =
    position-none (bytes_eq name) names (λ k d below.
    elim (cases_Bool (bytes_eq name (get_or names k d))) [
      | inl same ↦ let e = (bytes_eq-Decides name (get_or names k d)).0 same in
          let is = named k d below in absurd (let no = rw e at no_name in cc)
      | inr differs ↦ differs
    ])

-- A look-up among the names gives the number.
pub number_of-found : (keys names : List (List ℕ)) (key name : List ℕ) (found : Option ℕ)
    → found ≡ number_of keys key → key ≡ name → keys ≡ names → found ≡ number_of names name
number_of-found keys names key name found e k n =
    e ∙ ap (λ bytes. number_of keys bytes) k ∙ ap (λ xs. number_of xs name) n
