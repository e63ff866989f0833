-- A reply that is told by its lines: which texts may still follow from a place on.
use Rattle.std.specs.Prelude.{◌≡◌, ℕ, zero, suc, ◌+◌, ◌-◌, List, [], ◌∷◌, ◌++◌, map, false, slice_index_or}
use Rattle.text_forms.specs.Lines.{lines_of}

-- A text begins with the line of a place, and P holds of what is carried from it and of the rest.
pub record BeginsLine (C : Type 0) (Line : ℕ → C → List ℕ → C → Type 0) (place : ℕ) (carry : C) (text : List ℕ)
    (P : C → List ℕ → Type 0) : Type 0 where
  pub line : List ℕ
  pub rest : List ℕ
  pub carry2 : C
  pub is : Line place carry line carry2
  pub joins : text ≡ line ++ rest
  pub on : P carry2 rest

-- The text is the lines of a reply from a place on, where so many places are left. `Line place carry line carry2` says
-- that this may be the line of a place, with what is carried to it and from it.
abbrev pub Tail : (C : Type 0) → (ℕ → C → List ℕ → C → Type 0) → ℕ → ℕ → C → List ℕ → Type 0
Tail C Line zero place carry text = text ≡ []
Tail C Line (suc left) place carry text =
    BeginsLine C Line place carry text (λ carry2 rest. Tail C Line left (place + 1) carry2 rest)

-- Where in a reply a writer stands: how many lines are left, the place of the next one, and what is carried to it.
pub record Spot (C : Type 0) : Type 0 where
  pub left : ℕ
  pub place : ℕ
  pub carry : C

-- That spot before a place of a reply of n lines.
abbrev pub spot : {C : Type 0} → ℕ → ℕ → C → Spot C
spot n place carry = record { left = n - place; place = place; carry = carry }

-- A text leads from a spot to a later one: whatever may follow there, the text and then that may follow here.
abbrev pub Leads : (C : Type 0) → (ℕ → C → List ℕ → C → Type 0) → Spot C → List ℕ → Spot C → Type 0
Leads C Line a text b =
    (rest : List ℕ) → Tail C Line b.left b.place b.carry rest → Tail C Line a.left a.place a.carry (text ++ rest)

-- The line of a place of lines that are known; nothing is carried.
pub record KnownLine (C : Type 0) (lines : List (List ℕ)) (place : ℕ) (carry : C) (line : List ℕ) (carry2 : C) : Type 0
  where
    pub at : line ≡ slice_index_or lines place []
    pub kept : carry2 ≡ carry

-- The lines of a text with their line feeds.
abbrev pub lines_in : List ℕ → List (List ℕ)
lines_in text = map (λ line. line ++ 10 ∷ []) (lines_of false text)
