-- What words give to an option.
use Rattle.std.proofs.Common.{◌≡◌, ℕ, List, [], ◌∷◌, ◌++◌, Bool, true, false, Some, None, drop, length, refl}
use Rattle.std.proofs.Common.{ap, ◌∙◌, ◌&&◌, nat_le, if◌then◌else◌, ◌≢◌}
use Rattle.std.proofs.lemmas.List.{append-nil}
use Rattle.std.specs.declared.option.Option.{Option}
use Rattle.planner_server.specs.Options.{given_by, given_in, is_of, least_of, most_of, number_given, spelling_of}
use Rattle.planner_server.specs.Options.{texts_of}
use Rattle.planner_server.specs.declared.options.Given.TheVariants.{Missing, Number, Wrong}
use Rattle.planner_server.specs.declared.options.OptionName.{OptionName}
use Rattle.text_forms.specs.Numbers.{number_in}

-- what stands behind the name in a word of the option
abbrev behind : OptionName → List ℕ → List ℕ
behind name word = drop (length (spelling_of name)) word

-- the texts of words, and then those of more words
texts_of-append : (name : OptionName) (words more : List (List ℕ))
    → texts_of name (words ++ more) ≡ texts_of name words ++ texts_of name more
texts_of-append name [] more = refl
texts_of-append name (word ∷ words) more = by_kind (is_of name word) (texts_of-append name words more)
  where
    by_kind : (b : Bool) → texts_of name (words ++ more) ≡ texts_of name words ++ texts_of name more
        → (if b then behind name word ∷ texts_of name (words ++ more) else texts_of name (words ++ more))
        ≡ (if b then behind name word ∷ texts_of name words else texts_of name words) ++ texts_of name more
    by_kind true rest = ap (λ texts. behind name word ∷ texts) rest
    by_kind false rest = rest

-- a text that is given is not missing
number_given-there : (name : OptionName) (number : Option ℕ) → number_given name number ≡ Missing → ⊥
number_given-there name None missing = absurd (cc)
number_given-there name (Some n) missing = by_test (nat_le (least_of name) n && nat_le n (most_of name)) missing
  where
    by_test : (b : Bool) → (if b then Number n else Wrong) ≡ Missing → ⊥
    by_test true e = absurd (cc)
    by_test false e = absurd (cc)

-- one text behind none is the only one
first_text : (name : OptionName) (texts : List (List ℕ)) (text : List ℕ) → given_by name texts ≡ Missing
    → given_by name (texts ++ text ∷ []) ≡ number_given name (number_in text)
first_text name [] text missing = refl
first_text name (one ∷ []) text missing = absurd (number_given-there name (number_in one) missing)
first_text name (one ∷ two ∷ texts) text missing = absurd (cc)

-- one text behind another is one too many
next_text : (name : OptionName) (texts : List (List ℕ)) (text : List ℕ) → given_by name texts ≢ Missing
    → given_by name (texts ++ text ∷ []) ≡ Wrong
next_text name [] text given = absurd (given refl)
next_text name (one ∷ []) text given = refl
next_text name (one ∷ two ∷ texts) text given = refl

-- a word of another kind gives nothing to the option
pub given_in-other : (name : OptionName) (words : List (List ℕ)) (word : List ℕ) → is_of name word ≡ false
    → given_in name (words ++ word ∷ []) ≡ given_in name words
given_in-other name words word other =
    let none : texts_of name (word ∷ []) ≡ [] = rw other refl in
    ap (given_by name) (texts_of-append name words (word ∷ []) ∙ ap (λ more. texts_of name words ++ more) none
    ∙ append-nil (texts_of name words))

-- the first word of the option gives its number
pub given_in-first : (name : OptionName) (words : List (List ℕ)) (word : List ℕ) → is_of name word ≡ true
    → given_in name words ≡ Missing
    → given_in name (words ++ word ∷ []) ≡ number_given name (number_in (behind name word))
given_in-first name words word is missing =
    let one : texts_of name (word ∷ []) ≡ behind name word ∷ [] = rw is refl in
    ap (given_by name) (texts_of-append name words (word ∷ []) ∙ ap (λ more. texts_of name words ++ more) one)
    ∙ first_text name (texts_of name words) (behind name word) missing

-- a further word of the option is one too many
pub given_in-further : (name : OptionName) (words : List (List ℕ)) (word : List ℕ) → is_of name word ≡ true
    → given_in name words ≢ Missing → given_in name (words ++ word ∷ []) ≡ Wrong
given_in-further name words word is given =
    let one : texts_of name (word ∷ []) ≡ behind name word ∷ [] = rw is refl in
    ap (given_by name) (texts_of-append name words (word ∷ []) ∙ ap (λ more. texts_of name words ++ more) one)
    ∙ next_text name (texts_of name words) (behind name word) given
