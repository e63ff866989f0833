-- What was decided stays, whatever comes behind it.
use Rattle.std.proofs.Common.{◌≡◌, ℕ, ◌+◌, List, [], ◌∷◌, ◌++◌, Bool}
use Rattle.std.proofs.Common.{false, refl, ap, ◌∙◌, map, ne_eqb}
use Rattle.std.proofs.Common.{inl, inr}
use Rattle.std.proofs.lemmas.Bool.{cases_eq, eq-eqb}
use Rattle.std.proofs.lemmas.List.{map-append}
use Rattle.text_forms.specs.Lines.{front_of, fronts_of, join_byte, lines_of}
use Rattle.certifier.specs.Certificates.{Ends, Faulty, GoesOn, Stage, Taken, Title, Undecided, Verdict, take_line}
use Rattle.certifier.specs.Certificates.{verdict_by, verdict_from, verdict_on}

-- The lines of bytes begin with the whole lines of their front.
record BeginsWith (lines front : List (List ℕ)) : Type 0 where
  more : List (List ℕ)
  is : lines ≡ front ++ more

-- a byte before both
joined : (ended : Bool) (b : ℕ) (lines front : List (List ℕ)) → BeginsWith lines front
    → BeginsWith (join_byte b lines ended) (join_byte b front false)
joined ended b lines [] begins = record { more = join_byte b lines ended; is = refl }
joined ended b lines (line ∷ front) begins =
    record { more = begins.more; is = ap (λ ls. join_byte b ls ended) begins.is }

-- the whole lines of a front of bytes come first among the lines of all
front_lines : (ended : Bool) (front rest : List ℕ) → BeginsWith (lines_of ended (front ++ rest)) (lines_of false front)
front_lines ended [] rest = record { more = lines_of ended rest; is = refl }
front_lines ended (b ∷ front) rest = elim (cases_eq b 10) [
  | inl e ↦ let begins = front_lines ended front rest in
      rw (eq-eqb b 10 e) (record { more = begins.more; is = ap (λ ls. [] ∷ ls) begins.is })
  | inr e ↦ rw (ne_eqb b 10 e)
      (joined ended b (lines_of ended (front ++ rest)) (lines_of false front) (front_lines ended front rest))
]

-- one line, by what it does
taken_stays : (taken : Taken) (number : ℕ) (on other : Stage → Verdict)
    → ((stage : Stage) → (other stage ≡ Undecided → ⊥) → on stage ≡ other stage)
    → (verdict_by taken number other ≡ Undecided → ⊥) → verdict_by taken number on ≡ verdict_by taken number other
taken_stays (GoesOn stage) number on other same decided = same stage decided
taken_stays (Ends told) number on other same decided = refl
taken_stays (Faulty fault) number on other same decided = refl

-- lines that decide decide alike before others
lines_stay : (ended : Bool) (seen : ℕ) (stage : Stage) (lines more : List (List ℕ))
    → (verdict_from false seen stage lines ≡ Undecided → ⊥)
    → verdict_from ended seen stage (lines ++ more) ≡ verdict_from false seen stage lines
lines_stay ended seen stage [] more decided = absurd (decided refl)
lines_stay ended seen stage (line ∷ lines) more decided =
    taken_stays (take_line (seen + 1) stage line) (seen + 1)
    (λ after. verdict_from ended (seen + 1) after (lines ++ more)) (λ after. verdict_from false (seen + 1) after lines)
    (λ after undecided. lines_stay ended (seen + 1) after lines more undecided) decided

-- bytes that decide decide alike before others, and at the end of the input
pub verdict_stays : (ended : Bool) (front rest : List ℕ) → (verdict_on false front ≡ Undecided → ⊥)
    → verdict_on ended (front ++ rest) ≡ verdict_on false front
verdict_stays ended front rest decided =
    let begins = front_lines ended front rest in
    ap (λ ls. verdict_from ended 0 Title (map front_of ls)) begins.is
    ∙ ap (verdict_from ended 0 Title) (map-append front_of (lines_of false front) begins.more)
    ∙ lines_stay ended 0 Title (fronts_of false front) (map front_of begins.more) decided
