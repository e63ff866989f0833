-- The lines and the items of bytes that come piece by piece.
use Rattle.std.proofs.Common.{◌≡◌, ◌≢◌, ℕ, List, [], ◌∷◌, ◌++◌, map, Bool, true, false, refl, ap, ne_eqb}
use Rattle.std.proofs.lemmas.List.Elements.{All-head, All-tail}
use Rattle.text_forms.specs.Lines.{NoFeed, front_of, fronts_of, lines_of, join_byte}

-- the first line of bytes
pub lines_of-line : (ended : Bool) (line more : List ℕ) → NoFeed line
    → lines_of ended (line ++ 10 ∷ more) ≡ line ∷ lines_of ended more
lines_of-line ended [] more clean = refl
lines_of-line ended (b ∷ line) more clean =
    rw (ne_eqb b 10 (All-head (λ x. x ≢ 10) b line clean))
    (ap (λ ls. join_byte b ls ended) (lines_of-line ended line more (All-tail (λ x. x ≢ 10) b line clean)))

-- bytes without a line feed are no line while the input goes on
pub lines_of-open : (line : List ℕ) → NoFeed line → lines_of false line ≡ []
lines_of-open [] clean = refl
lines_of-open (b ∷ line) clean =
    rw (ne_eqb b 10 (All-head (λ x. x ≢ 10) b line clean))
    (ap (λ ls. join_byte b ls false) (lines_of-open line (All-tail (λ x. x ≢ 10) b line clean)))

-- and they are one line at the end of the input
pub lines_of-last : (b : ℕ) (line : List ℕ) → NoFeed (b ∷ line) → lines_of true (b ∷ line) ≡ (b ∷ line) ∷ []
lines_of-last b [] clean = rw (ne_eqb b 10 (All-head (λ x. x ≢ 10) b [] clean)) refl
lines_of-last b (x ∷ line) clean =
    rw (ne_eqb b 10 (All-head (λ x. x ≢ 10) b (x ∷ line) clean))
    (ap (λ ls. join_byte b ls true) (lines_of-last x line (All-tail (λ x. x ≢ 10) b (x ∷ line) clean)))

-- the same of the fronts of the lines
pub fronts_of-line : (ended : Bool) (line more : List ℕ) → NoFeed line
    → fronts_of ended (line ++ 10 ∷ more) ≡ front_of line ∷ fronts_of ended more
fronts_of-line ended line more clean = ap (map front_of) (lines_of-line ended line more clean)

pub fronts_of-open : (line : List ℕ) → NoFeed line → fronts_of false line ≡ []
fronts_of-open line clean = ap (map front_of) (lines_of-open line clean)

pub fronts_of-last : (b : ℕ) (line : List ℕ) → NoFeed (b ∷ line) → fronts_of true (b ∷ line) ≡ front_of (b ∷ line) ∷ []
fronts_of-last b line clean = ap (map front_of) (lines_of-last b line clean)
