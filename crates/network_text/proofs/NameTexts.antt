-- The text of names, and its stretches.
use Rattle.std.proofs.Common.{◌≡◌, ℕ, ◌+◌, ◌-◌, ◌<◌, ◌≤◌, List, [], ◌∷◌, ◌++◌, length, map, take, drop, get_or}
use Rattle.std.proofs.Common.{slice_index, slice_range, refl, sym, ap, ◌∙◌, arith, inl, inr}
use Rattle.std.proofs.Common.{append_assoc, length-append, add-one, drop-cons}
use Rattle.std.specs.List.{concat}
use Rattle.std.proofs.Math.Seq.{take-add, take-suc, get_or-append_seam}
use Rattle.std.proofs.lemmas.Bool.{cases_lt}
use Rattle.std.proofs.lemmas.List.{append-nil, drop_at, take_at, map-append, take-append-drop, take-append-le}
use Rattle.std.proofs.lemmas.List.{get_or_append_left, take_all}
use Rattle.std.proofs.lemmas.List.Folds.{concat-append}
use Rattle.network_text.specs.NameTexts.{IsTextOf, blank_names, blank_names_between}

-- The text of two lists of names is that of the one and then that of the other.
pub blank_names-append : (names more : List (List ℕ))
    → blank_names (names ++ more) ≡ blank_names names ++ blank_names more
unfolding blank_names
blank_names-append names more =
    let blank : List ℕ → List ℕ = λ name. 32 ∷ name in
    ap concat (map-append blank names more) ∙ concat-append (map blank names) (map blank more)

-- The text of one name.
pub blank_names-one : (name : List ℕ) → blank_names (name ∷ []) ≡ 32 ∷ name
unfolding blank_names
blank_names-one name = append-nil (32 ∷ name)

-- The names of one router are its name.
range-one : (names : List (List ℕ)) (router : ℕ) → router < length names
    → slice_range names router (router + 1) ≡ get_or names router [] ∷ []
range-one names router below =
    let one : router + 1 - router ≡ 1 = omega arith in rw (one, drop-cons names router [] below) refl

-- So a stretch of one name is a blank and the name.
pub blank_names_between-one : (names : List (List ℕ)) (router : ℕ) → router < length names
    → blank_names_between names router (router + 1) ≡ 32 ∷ get_or names router []
blank_names_between-one names router below =
    ap blank_names (range-one names router below) ∙ blank_names-one (get_or names router [])

-- Behind its first byte stands the name.
pub behind_blank : (bytes name : List ℕ) → bytes ≡ 32 ∷ name → slice_range bytes 1 (length bytes) ≡ name
behind_blank bytes name is = rw is (take_all (length (32 ∷ name) - 1) name (omega arith))

-- The middle of three texts, by where it begins and ends.
middle : (front part rest : List ℕ)
    → slice_range ((front ++ part) ++ rest) (length front) (length (front ++ part)) ≡ part
middle front part rest =
    let size : length part ≡ length (front ++ part) - length front = omega (arith, length-append front part) in
    rw (append_assoc front part rest, drop_at front (part ++ rest) (length front) refl)
    (take_at part rest (length (front ++ part) - length front) size)

-- The names up to one router are those up to another one and those between the two.
pub front-between : (names : List (List ℕ)) (from to : ℕ) → from ≤ to
    → blank_names (take to names) ≡ blank_names (take from names) ++ blank_names_between names from to
front-between names from to order =
    let many = to - from in
    let all : to ≡ from + many = omega (arith, order) in
    ap (λ k. blank_names (take k names)) all ∙ ap blank_names (take-add from many names)
    ∙ blank_names-append (take from names) (take many (drop from names))

-- All names are those up to a router and those behind.
whole-front : (names : List (List ℕ)) (to : ℕ)
    → blank_names names ≡ blank_names (take to names) ++ blank_names (drop to names)
whole-front names to =
    sym (ap blank_names (take-append-drop to names)) ∙ blank_names-append (take to names) (drop to names)

module _ {names : List (List ℕ)} {bytes begins : List ℕ} (is : IsTextOf names bytes begins) where
  -- A name doesn't begin before an earlier one,
  pub begins-rise : (from to : ℕ) → from ≤ to → to ≤ length names → slice_index begins from ≤ slice_index begins to
  begins-rise from to order within =
      let front = is.begins_are from (omega (arith, order, within)) in
      let all = ap length (front-between names from to order) in
      let sizes = length-append (blank_names (take from names)) (blank_names_between names from to) in
      omega (arith, front, is.begins_are to within, all, sizes)

  -- nor behind the text,
  pub begins-within : (to : ℕ) → to ≤ length names → slice_index begins to ≤ length bytes
  begins-within to within =
      let all = ap length (is.bytes_are ∙ whole-front names to) in
      let sizes = length-append (blank_names (take to names)) (blank_names (drop to names)) in
      omega (arith, is.begins_are to within, all, sizes)

  -- and between the places of two routers stand the names from the one up to the other.
  pub text-between : (from to : ℕ) → from ≤ to → to ≤ length names
      → slice_range bytes (slice_index begins from) (slice_index begins to) ≡ blank_names_between names from to
  text-between from to order within =
      let front = blank_names (take from names) in
      let part = blank_names_between names from to in
      let rest = blank_names (drop to names) in
      let both = front-between names from to order in
      let all : bytes ≡ (front ++ part) ++ rest = is.bytes_are ∙ whole-front names to ∙ ap (λ f. f ++ rest) both in
      let begin = is.begins_are from (omega (arith, order, within)) in
      let end = is.begins_are to within ∙ ap length both in
      rw (begin, end, all) (middle front part rest)

-- A sheet's text, as its names and its two parts are read.
pub text-seen : {keys names : List (List ℕ)} {stored bytes places begins : List ℕ} → IsTextOf keys stored places
    → keys ≡ names → bytes ≡ stored → begins ≡ places → IsTextOf names bytes begins
text-seen is named text placed = rw (text, placed, ← named) is

-- No name is a text of no byte, which begins and ends at 0.
pub text-none : IsTextOf [] [] (0 ∷ [])
unfolding blank_names
text-none = record { bytes_are = refl; count = refl; begins_are = λ k few. begins k few }
  where
    begins : (k : ℕ) → k ≤ 0 → slice_index (0 ∷ []) k ≡ length (blank_names (take k []))
    begins k few = let none : k ≡ 0 = omega (arith, few) in rw none refl

-- One name more is put behind a blank, and where it ends is noted.
text-one_more : (names : List (List ℕ)) (name bytes begins : List ℕ) → IsTextOf names bytes begins
    → IsTextOf (names ++ name ∷ []) (bytes ++ 32 ∷ name) (begins ++ length (bytes ++ 32 ∷ name) ∷ [])
text-one_more names name bytes begins is =
    let more = bytes ++ 32 ∷ name in
    let longer = names ++ name ∷ [] in
    let size = length-append names (name ∷ []) in
    let text : more ≡ blank_names longer =
    ap (λ b. b ++ 32 ∷ name) is.bytes_are ∙ ap (λ b. blank_names names ++ b) (sym (blank_names-one name))
    ∙ sym (blank_names-append names (name ∷ [])) in record {
      bytes_are = text;
      count = omega (arith, size, is.count, length-append begins (length more ∷ []));
      begins_are = λ k few.
          elim (cases_lt (length names) k) [
            | inr old ↦
                let before : slice_index (begins ++ length more ∷ []) k ≡ slice_index begins k =
                get_or_append_left begins (length more ∷ []) 0 k (omega (arith, old, is.count)) in
                before ∙ is.begins_are k old
                ∙ ap (λ ns. length (blank_names ns)) (sym (take-append-le k names (name ∷ []) old))
            | inl new ↦
                let last : k ≡ length begins = omega (arith, few, new, size, is.count) in
                let whole : take k longer ≡ longer = take_all k longer (omega (arith, new, size)) in
                ap (λ j. slice_index (begins ++ length more ∷ []) j) last
                ∙ get_or-append_seam begins (length more) [] 0 ∙ ap length text
                ∙ ap (λ ns. length (blank_names ns)) (sym whole)
          ];
    }

-- The same of the next name of a list, with the text and the places that it leaves.
pub text-more : (names : List (List ℕ)) (i : ℕ) {name bytes begins longer more : List ℕ} → i < length names
    → name ≡ get_or names i name → IsTextOf (take i names) bytes begins → longer ≡ bytes ++ 32 ∷ name
    → more ≡ begins ++ length longer ∷ [] → IsTextOf (take (i + 1) names) longer more
text-more names i {name = name} {bytes = bytes} {begins = begins} below here is text places =
    let next : take (i + 1) names ≡ take i names ++ name ∷ [] =
    rw add-one (take-suc names i name below) ∙ ap (λ n. take i names ++ n ∷ []) (sym here) in
    rw (places, text, next) (text-one_more (take i names) name bytes begins is)
