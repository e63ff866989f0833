-- Which items a line, and the end of the input, part off.
use Rattle.std.proofs.Common.{◌≡◌, ℕ, List, [], ◌∷◌, ◌++◌, None, Some, Bool}
use Rattle.std.proofs.Common.{true, false, refl, sym, ap, ◌∙◌, append_assoc}
use Rattle.std.proofs.Common.{if◌then◌else◌, inr, length, ◌≤◌, arith}
use Rattle.std.proofs.lemmas.List.{append-nil}
use Rattle.std.specs.declared.option.Option.{Option}
use Rattle.session.specs.Modes.{next_text, gives, IsQuiet, IsByeLine}
use Rattle.session.specs.Points.{Parts, Rest}
use Rattle.text_forms.specs.Lines.{NoFeed, front_of, fronts_of}
use Rattle.text_forms.specs.Words.{is_passed, is_load, is_end, is_bye}
use Rattle.text_forms.specs.Items.{Ask, Load, Bye, NoBye, items_from, items_on}
use Rattle.text_forms.proofs.LinesOf.{fronts_of-line, fronts_of-last, fronts_of-open}

-- the items of a line that is no BYE, and of the lines behind it
items_from-line : (ended : Bool) (text : Option (List (List ℕ))) (line : List ℕ) (lines : List (List ℕ))
    → IsQuiet text line
    → items_from ended text (line ∷ lines) ≡ gives text line ++ items_from ended (next_text text line) lines
items_from-line ended None line lines quiet = of_kind (is_passed line) (is_load line) (is_bye line) (quiet refl)
  where
    of_kind : (passed load bye : Bool) → (passed ≡ false → load ≡ false → bye ≡ false)
        → (if passed then items_from ended None lines else if load then items_from ended (Some []) lines
        else if bye then Bye ∷ [] else Ask line ∷ items_from ended None lines)
        ≡ (if passed then [] else if load then [] else Ask line ∷ [])
        ++ items_from ended (if passed then None else if load then Some [] else None) lines
    of_kind true load bye quiet = refl
    of_kind false true bye quiet = refl
    of_kind false false true quiet = absurd (let e = quiet refl refl in cc)
    of_kind false false false quiet = refl
items_from-line ended (Some text) line lines quiet = of_kind (is_end line)
  where
    of_kind : (end : Bool)
        → (if end then Load text true ∷ items_from ended None lines else items_from ended (Some (text ++ line ∷ []))
        lines)
        ≡ (if end then Load text true ∷ [] else []) ++ items_from ended
        (if end then None else Some (text ++ line ∷ [])) lines
    of_kind true = refl
    of_kind false = refl

-- a BYE between items is the last item
items_from-bye : (ended : Bool) (line : List ℕ) (lines : List (List ℕ)) → IsByeLine line
    → items_from ended None (line ∷ lines) ≡ Bye ∷ []
items_from-bye ended line lines is = of_kind (is_passed line) (is_load line) (is_bye line) is.passed is.load is.bye
  where
    of_kind : (passed load bye : Bool) → passed ≡ false → load ≡ false → bye ≡ true
        → (if passed then items_from ended None lines else if load then items_from ended (Some []) lines
        else if bye then Bye ∷ [] else Ask line ∷ items_from ended None lines) ≡ Bye ∷ []
    of_kind true load bye p q r = absurd (cc)
    of_kind false true bye p q r = absurd (cc)
    of_kind false false true p q r = refl
    of_kind false false false p q r = absurd (cc)

-- a line that is no BYE makes no BYE whole
gives-quiet : (text : Option (List (List ℕ))) (line : List ℕ) → NoBye (gives text line)
gives-quiet None line = of_kind (is_passed line) (is_load line)
  where
    of_kind : (passed load : Bool) → NoBye (if passed then [] else if load then [] else Ask line ∷ [])
    of_kind true load = tt
    of_kind false true = tt
    of_kind false false = tt
gives-quiet (Some text) line = of_kind (is_end line)
  where
    of_kind : (end : Bool) → NoBye (if end then Load text true ∷ [] else [])
    of_kind true = tt
    of_kind false = tt

-- a line gives one item at most
pub gives-one : (text : Option (List (List ℕ))) (line : List ℕ) → length (gives text line) ≤ 1
gives-one None line = of_kind (is_passed line) (is_load line)
  where
    of_kind : (passed load : Bool) → length (if passed then [] else if load then [] else Ask line ∷ []) ≤ 1
    of_kind true load = omega arith
    of_kind false true = omega arith
    of_kind false false = omega arith
gives-one (Some text) line = of_kind (is_end line)
  where
    of_kind : (end : Bool) → length (if end then Load text true ∷ [] else []) ≤ 1
    of_kind true = omega arith
    of_kind false = omega arith

-- and so does the end of the input
pub ends-one : (text : Option (List (List ℕ))) → length (items_from true text []) ≤ 1
ends-one None = omega arith
ends-one (Some text) = omega arith

-- what goes on in a text, with these bytes that belong to no item
abbrev pub open_at : ℕ → Option (List (List ℕ)) → List ℕ → Rest
open_at taken text bytes = record { taken = taken; over = false; open_text = text; bytes = bytes }

-- what is dropped
abbrev pub over_at : ℕ → Option (List (List ℕ)) → List ℕ → Rest
over_at taken text bytes = record { taken = taken; over = true; open_text = text; bytes = bytes }

module _ (taken : ℕ) (text : Option (List (List ℕ))) (ended : Bool) where
  -- a whole line that is no BYE
  pub line_parts : (line held : List ℕ) → NoFeed line → IsQuiet text (front_of line)
      → Parts (open_at taken text (line ++ 10 ∷ held)) (open_at taken (next_text text (front_of line)) held) ended []
      (gives text (front_of line))
  line_parts line held clean quiet = record {
    count = omega arith;
    are = λ met more comes.
        let joined : (line ++ 10 ∷ held) ++ more ≡ line ++ 10 ∷ (held ++ more) = simp append_assoc in
        ap (items_on met text) joined ∙ ap (items_from met text) (fronts_of-line met line (held ++ more) clean)
        ∙ items_from-line met text (front_of line) (fronts_of met (held ++ more)) quiet;
    over = λ e. absurd (cc);
    bye = λ e. absurd (cc);
    quiet = λ e. gives-quiet text (front_of line);
  }

  -- a whole line BYE between two items
  pub bye_parts : (line held : List ℕ) → NoFeed line → text ≡ None → IsByeLine (front_of line)
      → Parts (open_at taken text (line ++ 10 ∷ held)) (over_at taken text held) ended [] (Bye ∷ [])
  bye_parts line held clean none is = record {
    count = omega arith;
    are = λ met more comes.
        let joined : (line ++ 10 ∷ held) ++ more ≡ line ++ 10 ∷ (held ++ more) = simp append_assoc in
        ap (items_on met text) joined ∙ ap (items_from met text) (fronts_of-line met line (held ++ more) clean)
        ∙ ap (λ t. items_from met t (front_of line ∷ fronts_of met (held ++ more))) none
        ∙ items_from-bye met (front_of line) (fronts_of met (held ++ more)) is;
    over = λ e. absurd (cc);
    bye = λ e. inr ([], refl);
    quiet = λ e. absurd (cc);
  }

-- at the end of the input a last line without a line feed, which is no BYE
pub last_parts : (taken : ℕ) (text : Option (List (List ℕ))) (b : ℕ) (line : List ℕ) → NoFeed (b ∷ line)
    → IsQuiet text (front_of (b ∷ line))
    → Parts (open_at taken text (b ∷ line)) (open_at taken (next_text text (front_of (b ∷ line))) []) true []
    (gives text (front_of (b ∷ line)))
last_parts taken text b line clean quiet = record {
  count = omega arith;
  are = λ met more comes.
      ap (λ m. items_on m text ((b ∷ line) ++ more)) comes.0
      ∙ ap (λ t. items_on true text ((b ∷ line) ++ t)) comes.1
      ∙ ap (items_on true text) (append-nil (b ∷ line))
      ∙ ap (items_from true text) (fronts_of-last b line clean)
      ∙ items_from-line true text (front_of (b ∷ line)) [] quiet
      ∙ ap (λ is. gives text (front_of (b ∷ line)) ++ is)
      (ap (λ t. items_on true (next_text text (front_of (b ∷ line))) t) (sym comes.1)
      ∙ ap (λ m. items_on m (next_text text (front_of (b ∷ line))) more) (sym comes.0));
  over = λ e. absurd (cc);
  bye = λ e. absurd (cc);
  quiet = λ e. gives-quiet text (front_of (b ∷ line));
}

-- and one that is a BYE between two items
pub bye_last_parts : (taken : ℕ) (text : Option (List (List ℕ))) (b : ℕ) (line : List ℕ) → NoFeed (b ∷ line)
    → text ≡ None → IsByeLine (front_of (b ∷ line))
    → Parts (open_at taken text (b ∷ line)) (over_at taken text []) true [] (Bye ∷ [])
bye_last_parts taken text b line clean none is = record {
  count = omega arith;
  are = λ met more comes.
      ap (λ m. items_on m text ((b ∷ line) ++ more)) comes.0
      ∙ ap (λ t. items_on true text ((b ∷ line) ++ t)) comes.1
      ∙ ap (items_on true text) (append-nil (b ∷ line))
      ∙ ap (items_from true text) (fronts_of-last b line clean)
      ∙ ap (λ t. items_from true t (front_of (b ∷ line) ∷ [])) none
      ∙ items_from-bye true (front_of (b ∷ line)) [] is;
  over = λ e. absurd (cc);
  bye = λ e. inr ([], refl);
  quiet = λ e. absurd (cc);
}

-- and what is owed behind all lines
pub end_parts : (taken : ℕ) (text : Option (List (List ℕ)))
    → Parts (open_at taken text []) (open_at taken None []) true [] (items_from true text [])
end_parts taken text = record {
  count = omega arith;
  are = λ met more comes.
      ap (λ m. items_on m text more) comes.0 ∙ ap (items_on true text) comes.1
      ∙ sym (append-nil (items_from true text []))
      ∙ ap (λ is. items_from true text [] ++ is)
      (ap (λ t. items_on true None t) (sym comes.1) ∙ ap (λ m. items_on m None more) (sym comes.0));
  over = λ e. absurd (cc);
  bye = λ e. absurd (cc);
  quiet = λ e. quiet_end text;
}
  where
    quiet_end : (t : Option (List (List ℕ))) → NoBye (items_from true t [])
    quiet_end None = tt
    quiet_end (Some t) = tt

-- bytes without a line feed make no item while the input goes on
pub open_items : (text : Option (List (List ℕ))) (bytes : List ℕ) → NoFeed bytes
    → items_on false text (bytes ++ []) ≡ []
open_items text bytes clean =
    ap (items_on false text) (append-nil bytes) ∙ ap (items_from false text) (fronts_of-open bytes clean) ∙ nothing text
  where
    nothing : (t : Option (List (List ℕ))) → items_from false t [] ≡ []
    nothing None = refl
    nothing (Some t) = refl
