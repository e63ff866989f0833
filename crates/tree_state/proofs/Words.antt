-- The routers of a side are moved word by word.
use Rattle.std.proofs.Common.{◌≡◌, ◌≢◌, inl, inr, ℕ, ◌+◌, ◌*◌, ◌/◌, ◌%◌, ◌<◌, ◌≤◌, Bool, ◌&&◌}
use Rattle.std.proofs.Common.{List, length, set, sym, ap, ◌∙◌, refl, arith, get_or-set_same, get_or-set_other}
use Rattle.std.proofs.lemmas.Bool.{cases_eq, cases_lt, eq-eqb, ne_eqb}
use Rattle.std.proofs.lemmas.List.{get_or_past}
use Rattle.std.proofs.lemmas.Nat.Bits.{bit_at-zero}
use Rattle.std.specs.Prelude.{◌==◌, slice_index, if◌then◌else◌}
use Rattle.std.specs.Int.{bit_at}
use Rattle.cut_model.specs.Cuts.{RouterSet}
use Rattle.tree_state.specs.Tables.{Table, moved_to}
use Rattle.tree_state.specs.Words.{moved_by}

-- Where a router with a truth value hangs afterwards.
abbrev pub moved_if : Bool → ℕ → ℕ → ℕ → ℕ
moved_if is_in s t above = if is_in && (above == t) then s else above

-- a word moves none but its own routers
pub moved_by-outside : (place word s t : ℕ) (up : Table) (i : ℕ) → i / 64 ≢ place
    → moved_by place word s t up i ≡ up i
moved_by-outside place word s t up i out = rw (ne_eqb (i / 64) place out) refl

-- and those by their bits
pub moved_by-inside : (place word s t : ℕ) (up : Table) (i : ℕ) → i / 64 ≡ place
    → moved_by place word s t up i ≡ moved_if (bit_at word (i % 64) == 1) s t (up i)
moved_by-inside place word s t up i here = rw (eq-eqb (i / 64) place here) refl

-- What one word moves: those of its routers that hung from t hang from s, and what was above each before.
pub record WordMove : Type 0 where
  pub place : ℕ
  pub word : ℕ
  pub s : ℕ
  pub t : ℕ
  pub before : List ℕ

-- The routers before one are moved, and the others stand as before.
pub record AreMovedTo (w : WordMove) (i : ℕ) (now : List ℕ) : Type 0 where
  pub moved : (k : ℕ) → k < i → slice_index now k ≡ moved_by w.place w.word w.s w.t (slice_index w.before) k
  pub rest : (k : ℕ) → i ≤ k → slice_index now k ≡ slice_index w.before k

-- one router more of the word is moved
pub moved_more : (w : WordMove) (i v : ℕ) (now : List ℕ) → AreMovedTo w i now → i < length now → i / 64 ≡ w.place
    → v ≡ moved_if (bit_at w.word (i % 64) == 1) w.s w.t (slice_index now i) → AreMovedTo w (i + 1) (set now i v)
moved_more w i v now so_far within here is = record {
  moved = λ k low. elim (cases_eq k i) [
    | inl e ↦ rw e (get_or-set_same now i v 0 within ∙ is
        ∙ ap (moved_if (bit_at w.word (i % 64) == 1) w.s w.t) (so_far.rest i (omega arith))
        ∙ sym (moved_by-inside w.place w.word w.s w.t (slice_index w.before) i here))
    | inr ne ↦ get_or-set_other now i k v 0 ne ∙ so_far.moved k (omega arith)
  ];
  rest = λ k high. get_or-set_other now i k v 0 (λ e. omega arith) ∙ so_far.rest k (omega arith);
}

-- What a side moves: those of the routers of X that hung from t hang from s, and what was above each before.
pub record Move : Type 0 where
  pub s : ℕ
  pub t : ℕ
  pub X : RouterSet
  pub before : List ℕ

-- The routers of the words before a place are moved, and the others stand as before.
pub record AreMoved (m : Move) (place : ℕ) (now : List ℕ) : Type 0 where
  pub moved :
      (k : ℕ) → k < 64 * place → k < length m.before
      → slice_index now k ≡ moved_to m.s (slice_index m.before) m.t m.X k
  pub rest : (k : ℕ) → 64 * place ≤ k → slice_index now k ≡ slice_index m.before k

-- The word has of X the 64 routers from its place on.
abbrev pub IsWordOf : Move → ℕ → ℕ → Type 0
IsWordOf m place word = (i : ℕ) → i < 64 → (bit_at word i == 1) ≡ m.X (64 * place + i)

-- The routers of one word are moved, from one list to the next.
pub record MovesWord (m : Move) (place : ℕ) (now next : List ℕ) : Type 0 where
  pub word : ℕ
  pub bits : IsWordOf m place word
  pub len : length next ≡ length m.before
  pub step : (k : ℕ) → k < length next → slice_index next k ≡ moved_by place word m.s m.t (slice_index now) k

-- a whole word more of a side is moved
pub word_more : (m : Move) (place : ℕ) (now next : List ℕ) → AreMoved m place now → MovesWord m place now next
    → AreMoved m (place + 1) next
word_more m place now next so_far one = record {
  moved = λ k low within. elim (cases_eq (k / 64) place) [
    | inl here ↦ one.step k (omega (arith, one.len))
        ∙ moved_by-inside place one.word m.s m.t (slice_index now) k here
        ∙ ap (moved_if (bit_at one.word (k % 64) == 1) m.s m.t) (so_far.rest k (omega arith))
        ∙ ap (λ b. moved_if b m.s m.t (slice_index m.before k))
        (one.bits (k % 64) (omega arith) ∙ ap m.X (omega arith))
    | inr out ↦ one.step k (omega (arith, one.len))
        ∙ moved_by-outside place one.word m.s m.t (slice_index now) k out
        ∙ so_far.moved k (omega arith) within
  ];
  rest = λ k high. elim (cases_lt k (length m.before)) [
    | inl within ↦ one.step k (omega (arith, one.len))
        ∙ moved_by-outside place one.word m.s m.t (slice_index now) k (λ e. omega arith)
        ∙ so_far.rest k (omega arith)
    | inr past ↦ get_or_past next k 0 (omega (arith, one.len)) ∙ sym (get_or_past m.before k 0 past)
  ];
}

-- an empty word moves none
pub empty_more : (m : Move) (place : ℕ) (now : List ℕ) → AreMoved m place now → IsWordOf m place 0
    → AreMoved m (place + 1) now
empty_more m place now so_far bits = record {
  moved = λ k low within. elim (cases_eq (k / 64) place) [
    | inl here ↦ so_far.rest k (omega arith) ∙ ap (λ b. moved_if b m.s m.t (slice_index m.before k))
        (ap (λ d. d == 1) (sym (bit_at-zero (k % 64))) ∙ bits (k % 64) (omega arith) ∙ ap m.X (omega arith))
    | inr out ↦ so_far.moved k (omega arith) within
  ];
  rest = λ k high. so_far.rest k (omega arith);
}
