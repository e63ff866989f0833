-- The names of a sheet, added one by one and found again.
use Rattle.std.proofs.Common.{◌≡◌, ◌≢◌, ℕ, ◌<◌, List, [], ◌∷◌, ◌++◌, false, length, get_or, refl, sym, ap, ◌∙◌}
use Rattle.std.proofs.Common.{arith, All, AllPairs, IsTrue, length-append}
use Rattle.std.specs.List.{list_any}
use Rattle.std.specs.Str.{bytes_eq}
use Rattle.std.proofs.Math.Seq.{get_or-append_seam}
use Rattle.std.proofs.lemmas.Bool.{false_from_ne_true}
use Rattle.std.proofs.lemmas.List.{get_or_append_left}
use Rattle.std.proofs.lemmas.List.Folds.{list_any_at, list_any_none}
use Rattle.std.proofs.lemmas.List.Sums.{position_or_len_is}
use Rattle.std.proofs.lemmas.Slice.Eq.{bytes_eq-Decides}
use Rattle.text_forms.specs.Names.{is_name}
use Rattle.network_text.specs.Texts.{place_of, with_ends, with_name}
use Rattle.network_text.specs.Writing.{name_at}

-- Each is a name.
abbrev pub AreNames : List (List ℕ) → Type 0
AreNames names = All (λ name. IsTrue (is_name name)) names

-- No two are the same.
abbrev pub Differ : List (List ℕ) → Type 0
Differ names = AllPairs (λ name other. name ≢ other) names

-- Names that differ are told apart.
apart : (name other : List ℕ) → other ≢ name → bytes_eq name other ≡ false
apart name other differ =
    false_from_ne_true (bytes_eq name other) (λ same. differ (sym ((bytes_eq-Decides name other).0 same)))

-- A name that differs from those before it goes to the end.
pub with_name-new : (names : List (List ℕ)) (name : List ℕ) (rest : List (List ℕ)) → Differ (names ++ name ∷ rest)
    → with_name names name ≡ names ++ name ∷ []
with_name-new names name rest differ =
    let within : length names < length (names ++ name ∷ rest) = omega (arith, length-append names (name ∷ rest)) in
    let new : list_any (bytes_eq name) names ≡ false =
    list_any_none (bytes_eq name) names (λ k d below.
    let before = get_or_append_left names (name ∷ rest) d k below in
    let here = get_or-append_seam names name rest d in
    apart name (get_or names k d) (λ same. differ k (length names) d below within (before ∙ same ∙ sym here))) in
    rw new refl

-- The name of a router is there already.
with_name-known : (names : List (List ℕ)) (router : ℕ) → router < length names
    → with_name names (name_at names router) ≡ names
with_name-known names router below =
    let name = name_at names router in
    let same = (bytes_eq-Decides name name).1 refl in
    let known = list_any_at (bytes_eq name) names router [] below same in rw known refl

-- So are the names of both ends of a link.
pub with_ends-known : (names : List (List ℕ)) (a b : ℕ) → a < length names → b < length names
    → with_ends names (name_at names a) (name_at names b) ≡ names
with_ends-known names a b a_below b_below =
    ap (λ ns. with_name ns (name_at names b)) (with_name-known names a a_below) ∙ with_name-known names b b_below

-- Where names differ, that of a router is found at its place.
pub place_of-name_at : (names : List (List ℕ)) (router : ℕ) → Differ names → router < length names
    → place_of names (name_at names router) ≡ router
place_of-name_at names router differ below =
    let name = name_at names router in
    position_or_len_is (bytes_eq name) names router [] (omega arith)
    (λ k before. apart name (get_or names k []) (differ k router [] before below))
    (λ found. (bytes_eq-Decides name name).1 refl)
