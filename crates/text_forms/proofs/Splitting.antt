-- Where the words of bytes begin and end.
use Rattle.std.proofs.Common.{◌≡◌, ℕ, suc, ◌+◌, ◌-◌, ◌≤◌, List, [], ◌∷◌, ◌++◌, Bool, true, false, not, length}
use Rattle.std.proofs.Common.{take, drop, refl, sym, ap, ◌∙◌, inl, inr, arith, nat_lt, Some, None, position}
use Rattle.std.proofs.Common.{unwrap_or}
use Rattle.std.specs.List.{list_all, position_or_len}
use Rattle.std.proofs.lemmas.Bool.{cases_Bool, lt-ltb, ltb-false}
use Rattle.std.proofs.lemmas.List.{take-append-drop, take_rest, drop_all}
use Rattle.std.proofs.lemmas.List.Sums.{prefix_len-le-length}
use Rattle.text_forms.specs.Words.{is_blank, goes_on, words_of, join_word}

one_more : (n : ℕ) → 1 + n ≡ suc n
one_more n = omega arith

-- a byte of a word
abbrev pub is_letter : ℕ → Bool
is_letter b = not (is_blank b)

-- blanks in front make no word
pub words-behind_blanks : (blanks rest : List ℕ) → list_all (λ b. not (is_letter b)) blanks ≡ true
    → words_of (blanks ++ rest) ≡ words_of rest
words-behind_blanks [] rest h = refl
words-behind_blanks (b ∷ blanks) rest h =
    elim (cases_Bool (is_blank b)) [
      | inl e ↦ rw e (words-behind_blanks blanks rest (rw e at h))
      | inr e ↦ absurd (let k = rw e at h in cc)
    ]

-- a byte of a word joins the word that goes on behind it
words_of-joins : (b : ℕ) (bytes : List ℕ) → is_blank b ≡ false → goes_on bytes ≡ true
    → words_of (b ∷ bytes) ≡ join_word b (words_of bytes)
words_of-joins b bytes e f = rw (e, f) refl

some_left : (n : ℕ) → nat_lt 0 (suc n) ≡ true
some_left n = lt-ltb 0 (suc n) (omega arith)

-- bytes without a blank are one word where a blank or nothing stands behind them
pub words-of_word : (b : ℕ) (word rest : List ℕ) → list_all is_letter (b ∷ word) ≡ true → goes_on rest ≡ false
    → words_of ((b ∷ word) ++ rest) ≡ (b ∷ word) ∷ words_of rest
words-of_word b [] rest h stops =
    elim (cases_Bool (is_blank b)) [
      | inl e ↦ absurd (let k = rw e at h in cc)
      | inr e ↦ rw (e, stops) refl
    ]
words-of_word b (c ∷ word) rest h stops =
    elim (cases_Bool (is_blank b)) [
      | inl e ↦ absurd (let k = rw e at h in cc)
      | inr e ↦ elim (cases_Bool (is_blank c)) [
        | inl f ↦ absurd (let k = rw (e, f) at h in cc)
        | inr f ↦ words_of-joins b ((c ∷ word) ++ rest) e (rw f refl)
            ∙ ap (join_word b) (words-of_word c word rest (rw e at h) stops)
      ]
    ]

-- no place before the first that passes does
pub none-before_first : (p : ℕ → Bool) (xs : List ℕ) → list_all (λ x. not (p x)) (take (position_or_len p xs) xs) ≡ true
none-before_first p [] = refl
none-before_first p (x ∷ xs) =
    elim (cases_Bool (p x)) [
      | inl e ↦ rw e refl
      | inr e ↦ rw (e, one_more (position_or_len p xs), e) (none-before_first p xs)
    ]

-- behind the blanks in front a word begins, if anything is left
pub goes_on-at_letter : (xs : List ℕ)
    → goes_on (drop (position_or_len is_letter xs) xs) ≡ nat_lt 0 (length (drop (position_or_len is_letter xs) xs))
goes_on-at_letter [] = refl
goes_on-at_letter (x ∷ xs) =
    elim (cases_Bool (is_blank x)) [
      | inl e ↦ rw (e, one_more (position_or_len is_letter xs)) (goes_on-at_letter xs)
      | inr e ↦ rw (e, e) (sym (some_left (length xs)))
    ]

-- at the first blank no word goes on
pub goes_on-at_blank : (xs : List ℕ) → goes_on (drop (position_or_len is_blank xs) xs) ≡ false
goes_on-at_blank [] = refl
goes_on-at_blank (x ∷ xs) =
    elim (cases_Bool (is_blank x)) [
      | inl e ↦ rw (e, e) refl
      | inr e ↦ rw (e, one_more (position_or_len is_blank xs)) (goes_on-at_blank xs)
    ]

-- what stands behind the blanks in front has the same words
pub words-at_letter : (xs : List ℕ) → words_of (drop (position_or_len is_letter xs) xs) ≡ words_of xs
words-at_letter xs =
    let n : ℕ = position_or_len is_letter xs in
    let whole = take-append-drop n xs in
    sym (words-behind_blanks (take n xs) (drop n xs) (none-before_first is_letter xs)) ∙ ap words_of whole

-- where a first passing place is found, it is the number of places that don't pass
position-is : (p : ℕ → Bool) (xs : List ℕ) (i : ℕ) → Some i ≡ position p xs → i ≡ position_or_len p xs
position-is p xs i e =
    elim (cases_Bool (nat_lt (position_or_len p xs) (length xs))) [
      | inl found ↦ let k = rw found at e in cc
      | inr none ↦ let k = rw none at e in cc
    ]

-- where no place passes, all are passed over
no-position : (p : ℕ → Bool) (xs : List ℕ) → None ≡ position p xs → length xs ≤ position_or_len p xs
no-position p xs e =
    elim (cases_Bool (nat_lt (position_or_len p xs) (length xs))) [
      | inl found ↦ let k = rw found at e in absurd (cc)
      | inr none ↦ ltb-false _ _ none
    ]

pub skipped-Some : (bytes : List ℕ) (start : ℕ) → Some start ≡ position is_letter bytes
    → words_of (take (length bytes - start) (drop start bytes)) ≡ words_of bytes
skipped-Some bytes start e = rw (take_rest bytes start, position-is is_letter bytes start e) (words-at_letter bytes)

pub skipped_to_word : (bytes : List ℕ) (start : ℕ) → Some start ≡ position is_letter bytes
    → goes_on (take (length bytes - start) (drop start bytes))
    ≡ nat_lt 0 (length (take (length bytes - start) (drop start bytes)))
skipped_to_word bytes start e =
    rw (take_rest bytes start, position-is is_letter bytes start e) (goes_on-at_letter bytes)

pub skipped-None : (bytes : List ℕ) → None ≡ position is_letter bytes → words_of bytes ≡ []
skipped-None bytes e =
    sym (words-at_letter bytes)
    ∙ ap words_of (drop_all (position_or_len is_letter bytes) bytes (no-position is_letter bytes e))

next-blank : (b : ℕ) (bytes : List ℕ) → is_blank b ≡ false
    → position_or_len is_blank (b ∷ bytes) ≡ suc (position_or_len is_blank bytes)
next-blank b bytes e = rw e (one_more (position_or_len is_blank bytes))

word-up_to : (b : ℕ) (bytes : List ℕ) (n end : ℕ)
    → words_of (b ∷ bytes) ≡ (b ∷ take n bytes) ∷ words_of (drop n bytes)
    → end ≡ suc n → words_of (b ∷ bytes) ≡ take end (b ∷ bytes) ∷ words_of (drop end (b ∷ bytes))
word-up_to b bytes n end split e = rw e split

-- the bytes up to the first blank are the first word
pub word-first : (text : List ℕ) → goes_on text ≡ true
    → words_of text ≡ take (position_or_len is_blank text) text ∷ words_of (drop (position_or_len is_blank text) text)
word-first [] h = absurd (cc)
word-first (b ∷ bytes) h =
    elim (cases_Bool (is_blank b)) [
      | inl e ↦ absurd (let k = rw e at h in cc)
      | inr e ↦
          let n : ℕ = position_or_len is_blank bytes in
          let all : list_all is_letter (b ∷ take n bytes) ≡ true = rw e (none-before_first is_blank bytes) in
          let split = words-of_word b (take n bytes) (drop n bytes) all (goes_on-at_blank bytes) in
          let whole : b ∷ (take n bytes ++ drop n bytes) ≡ b ∷ bytes = ap (λ xs. b ∷ xs) (take-append-drop n bytes) in
          word-up_to b bytes n (position_or_len is_blank (b ∷ bytes)) (ap words_of (sym whole) ∙ split)
          (next-blank b bytes e)
    ]

position-or_len : (p : ℕ → Bool) (xs : List ℕ) → unwrap_or (position p xs) (length xs) ≡ position_or_len p xs
position-or_len p xs =
    elim (cases_Bool (nat_lt (position_or_len p xs) (length xs))) [
      | inl found ↦ rw found refl
      | inr none ↦ rw none (omega (arith, prefix_len-le-length (λ x. not (p x)) xs, ltb-false _ _ none))
    ]

-- the same of the place that a search for the first blank gives
pub word-to_blank : (text : List ℕ) (end : ℕ) → goes_on text ≡ true
    → end ≡ unwrap_or (position is_blank text) (length text)
    → words_of text ≡ take end text ∷ words_of (drop end text)
word-to_blank text end h e = rw (e ∙ position-or_len is_blank text) (word-first text h)
