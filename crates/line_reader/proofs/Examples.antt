-- The definitions on a small example, by computing: of `ab\nc` one read gave `a`, and the next one the rest.
use Rattle.std.proofs.Common.{◌≡◌, ℕ, ◌<◌, [], ◌∷◌, true, false, refl, codes, arith}
use Rattle.std.proofs.lemmas.List.Elements.{All-cons, All-nil}
use Rattle.text_forms.specs.Lines.{NoFeed}
use Rattle.line_reader.specs.Buffered.{Buffered, Holds, fresh}
use Rattle.line_reader.specs.Taking.{LastTells, NextTells}

-- `a` was looked at, and `b\nc` was read behind it
abbrev read_on : Buffered
read_on = record { line = codes "a"; whole = false; bytes = codes "b\nc"; taken = 4 }

-- the line was taken, and then `c` at the end of the input
abbrev took : Buffered
took = record { line = codes "ab"; whole = true; bytes = codes "c"; taken = 4 }

abbrev took_last : Buffered
took_last = record { line = codes "c"; whole = true; bytes = []; taken = 4 }

-- a line without a line feed
none : NoFeed []
none = All-nil (λ b. b ≡ 10 → ⊥)

one : (b : ℕ) → 10 < b → NoFeed (b ∷ [])
one b above = All-cons (λ b. b ≡ 10 → ⊥) b [] (λ e. absurd (omega arith)) none

two : (b c : ℕ) → 10 < b → 10 < c → NoFeed (b ∷ c ∷ [])
two b c above also = All-cons (λ b. b ≡ 10 → ⊥) b (c ∷ []) (λ e. absurd (omega arith)) (one c also)

-- at first no byte is held
at_first : Holds fresh []
at_first = record { open_line = []; clean = none; begun = λ _. refl; front = λ _. refl; is = refl }

-- the line that isn't ended is held, and what is buffered behind it
held : Holds read_on (codes "ab\nc")
held = record {
  open_line = codes "a";
  clean = one 97 (omega arith);
  begun = λ e. absurd (cc);
  front = λ _. refl;
  is = refl;
}

-- its line is taken, and what is behind the line feed is held
takes : NextTells true (codes "ab\nc") took
takes = record {
  line = codes "ab";
  behind = codes "c";
  clean = two 97 98 (omega arith) (omega arith);
  is = refl;
  front = refl;
  holds = record { open_line = []; clean = none; begun = λ _. refl; front = λ e. absurd (cc); is = refl };
}

-- at the end of the input the rest is a line, and none is held behind it
takes_last : LastTells true (codes "c") took_last
takes_last = record {
  some = omega arith;
  clean = one 99 (omega arith);
  front = refl;
  holds = record { open_line = []; clean = none; begun = λ _. refl; front = λ e. absurd (cc); is = refl };
}
