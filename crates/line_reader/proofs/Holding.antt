-- What the parts of a line do to the bytes that a reader holds.
use Rattle.std.proofs.Common.{◌≡◌, ℕ, List, [], ◌∷◌, ◌++◌, Bool, IsTrue, true, false, refl, sym, ap, ◌∙◌}
use Rattle.std.proofs.Common.{append_assoc, subst}
use Rattle.std.proofs.lemmas.List.{append-nil}
use Rattle.std.proofs.lemmas.List.Elements.{All-append, All-nil}
use Rattle.text_forms.specs.Lines.{NoFeed, front_of}
use Rattle.line_reader.proofs.Fronts.{front_on}
use Rattle.line_reader.specs.Buffered.{Buffered, Holds}
use Rattle.line_reader.specs.Taking.{EndsLine, ExtendsLine, NextTells, TakesLine}

-- a reader whose last line was taken, or that has no byte, holds what it has buffered
holds_buffered : (new : Buffered) → (new.whole ≡ false → new.line ≡ []) → Holds new new.bytes
holds_buffered new none = record {
  open_line = [];
  clean = All-nil (λ b. b ≡ 10 → ⊥);
  begun = λ _. refl;
  front = none;
  is = refl;
}

-- the part up to a line feed ends the line
holds_feed : {old : Buffered} (new : Buffered) (bytes : List ℕ) → Holds old bytes → old.whole ≡ false
    → EndsLine old new → TakesLine bytes new
holds_feed {old = old} new bytes h unended e = record {
  line = h.open_line ++ e.part;
  behind = new.bytes;
  clean = All-append (λ b. b ≡ 10 → ⊥) h.open_line e.part h.clean e.clean;
  is = h.is ∙ ap (λ l. h.open_line ++ l) e.is ∙ sym (append_assoc h.open_line e.part (10 ∷ new.bytes));
  front = e.front ∙ ap (λ l. front_of (l ++ e.part)) (h.front unended) ∙ front_on h.open_line e.part;
  holds = holds_buffered new (λ other. absurd (cc));
}

-- a part without a line feed goes on with the line
holds_on : {old : Buffered} (new : Buffered) (bytes : List ℕ) → Holds old bytes → old.whole ≡ false
    → ExtendsLine old new → NoFeed bytes × Holds new bytes
holds_on {old = old} new bytes h unended e =
    let line = h.open_line ++ old.bytes in
    let clean : NoFeed line = All-append (λ b. b ≡ 10 → ⊥) h.open_line old.bytes h.clean e.clean in (
      subst NoFeed (sym h.is) clean,
      record {
        open_line = line;
        clean = clean;
        begun = λ other. absurd (cc);
        front = λ _. e.front ∙ ap (λ l. front_of (l ++ old.bytes)) (h.front unended) ∙ front_on h.open_line old.bytes;
        is = h.is ∙ sym (append-nil line) ∙ ap (λ l. line ++ l) (sym e.spent);
      },
    )

-- a part of a line that is added tells whether the line is whole
pub next_tells : {old : Buffered} (new : Buffered) (result : Bool) (bytes : List ℕ) → Holds old bytes
    → old.whole ≡ false → (IsTrue result → EndsLine old new) → (result ≡ false → ExtendsLine old new)
    → NextTells result bytes new
next_tells new true bytes h unended found all = holds_feed new bytes h unended (found refl)
next_tells new false bytes h unended found all = holds_on new bytes h unended (all refl)
