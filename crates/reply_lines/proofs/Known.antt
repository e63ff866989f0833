-- Replies whose lines are known.
use Rattle.std.proofs.Common.{◌≡◌, ℕ, zero, suc, ◌+◌, ◌-◌, ◌<◌, List, [], ◌∷◌, ◌++◌, refl, sym, ap, ◌∙◌, arith, length}
use Rattle.std.proofs.Common.{drop}
use Rattle.std.proofs.Common.{All, append_assoc, drop_of_length-le, add-one, drop-cons, length-append}
use Rattle.std.proofs.Common.{Bool, true, false, if◌then◌else◌, Result, Ok, Err}
use Rattle.std.proofs.lemmas.Bool.{eqb-true}
use Rattle.std.proofs.lemmas.List.{append-nil}
use Rattle.std.proofs.lemmas.List.Elements.{All-head, All-tail}
use Rattle.std.specs.List.{concat}
use Rattle.std.specs.Prelude.{slice_index_or, map, ◌==◌}
use Rattle.text_forms.specs.Lines.{NoFeed, join_byte, lines_of}
use Rattle.text_forms.proofs.LinesOf.{lines_of-line}
use Rattle.reply_lines.specs.Puts.{PutsLines}
use Rattle.reply_lines.specs.Tails.{KnownLine, Tail, lines_in}
use Rattle.wires.specs.Puts.{Puts}
use Rattle.wires.specs.declared.sinks.Sink.{Ghosts}
use Rattle.wires.proofs.Puts.{puts_failed, puts_same}

-- What is left from a place on.
rest_of : (lines : List (List ℕ)) (place : ℕ) → place < length lines
    → concat (drop place lines) ≡ slice_index_or lines place [] ++ concat (drop (place + 1) lines)
rest_of lines place low = rw (add-one, drop-cons lines place [] low) refl

-- Known lines give their text,
pub known_tail : (C : Type 0) (lines : List (List ℕ)) (left place : ℕ) (carry : C) → place + left ≡ length lines
    → Tail C (KnownLine C lines) left place carry (concat (drop place lines))
known_tail C lines zero place carry all = ap concat (drop_of_length-le lines (omega arith))
known_tail C lines (suc left) place carry all = record {
  line = slice_index_or lines place [];
  rest = concat (drop (place + 1) lines);
  carry2 = carry;
  is = record { at = refl; kept = refl };
  joins = rest_of lines place (omega arith);
  on = known_tail C lines left (place + 1) carry (omega arith);
}

-- and no other.
pub known_only : (C : Type 0) (lines : List (List ℕ)) (left place : ℕ) (carry : C) (text : List ℕ)
    → place + left ≡ length lines → Tail C (KnownLine C lines) left place carry text
    → text ≡ concat (drop place lines)
known_only C lines zero place carry text all t = t ∙ sym (ap concat (drop_of_length-le lines (omega arith)))
known_only C lines (suc left) place carry text all t =
    t.joins ∙ ap (λ l. l ++ t.rest) t.is.at
    ∙ ap (λ r. slice_index_or lines place [] ++ r)
    (known_only C lines left (place + 1) t.carry2 t.rest (omega arith) t.on)
    ∙ sym (rest_of lines place (omega arith))

-- Lines that are known give a text from any place on.
some_tail : (C : Type 0) (lines : List (List ℕ)) (left place : ℕ) (carry : C)
    → (text : List ℕ) × Tail C (KnownLine C lines) left place carry text
some_tail C lines zero place carry = ([], refl)
some_tail C lines (suc left) place carry =
    let on = some_tail C lines left (place + 1) carry in
    let line = slice_index_or lines place [] in (
      line ++ on.0,
      record {
        line = line;
        rest = on.0;
        carry2 = carry;
        is = record { at = refl; kept = refl };
        joins = refl;
        on = on.1;
      },
    )

-- Where the lines are known, all lines that were put are their text.
pub known_puts : {S C E : Type 0} {g : Ghosts S} {old new : S} (lines : List (List ℕ)) (carry : C)
    (result : Result (Unit {0}) E) → PutsLines g old new result (KnownLine C lines) (length lines) carry
    → Puts g old new result (concat lines)
known_puts {C = C} lines carry (Ok u) put =
    let done : Tail C (KnownLine C lines) put.last.left put.last.place put.last.carry [] = rw put.all refl in
    let all = known_only C lines (length lines - 0) 0 carry (put.puts.text ++ []) (omega arith)
    (put.puts.leads [] done) in
    puts_same (sym (append-nil put.puts.text) ∙ all) put.puts.puts
known_puts {C = C} lines carry (Err e) put =
    let some = some_tail C lines put.last.left put.last.place put.last.carry in
    let all = known_only C lines (length lines - 0) 0 carry (put.puts.text ++ some.0) (omega arith)
    (put.puts.leads some.0 some.1) in
    puts_same all (puts_failed put.puts.text some.0 (Err e) refl put.puts.puts)

-- Lines that may be other lines give tails that are other tails.
pub Tail-map : (C : Type 0) (A B : ℕ → C → List ℕ → C → Type 0)
    → ((place : ℕ) (carry : C) (line : List ℕ) (carry2 : C) → A place carry line carry2 → B place carry line carry2)
    → (left place : ℕ) (carry : C) (text : List ℕ) → Tail C A left place carry text → Tail C B left place carry text
Tail-map C A B f zero place carry text t = t
Tail-map C A B f (suc left) place carry text t = record {
  line = t.line;
  rest = t.rest;
  carry2 = t.carry2;
  is = f place carry t.line t.carry2 t.is;
  joins = t.joins;
  on = Tail-map C A B f left (place + 1) t.carry2 t.rest t.on;
}

-- A line behind a byte.
joined : (b : ℕ) (lines : List (List ℕ)) (front : List ℕ)
    → concat (map (λ (l : List ℕ). l ++ 10 ∷ []) lines) ≡ front ++ 10 ∷ []
    → concat (map (λ (l : List ℕ). l ++ 10 ∷ []) (join_byte b lines false)) ≡ b ∷ (front ++ 10 ∷ [])
joined b [] front e = absurd (omega (arith, ap length e, length-append front (10 ∷ [])))
joined b (line ∷ lines) front e = ap (λ t. b ∷ t) e

-- A text that ends with a line feed is its lines.
pub lines_whole : (front : List ℕ) → concat (lines_in (front ++ 10 ∷ [])) ≡ front ++ 10 ∷ []
lines_whole [] = refl
lines_whole (b ∷ front) = of_byte (b == 10) (eqb-true b 10) (lines_whole front)
  where
    of_byte : (feed : Bool) → (feed ≡ true → b ≡ 10) → concat (lines_in (front ++ 10 ∷ [])) ≡ front ++ 10 ∷ []
        → concat (map (λ (l : List ℕ). l ++ 10 ∷ []) (if feed then [] ∷ lines_of false (front ++ 10 ∷ [])
        else join_byte b (lines_of false (front ++ 10 ∷ [])) false)) ≡ b ∷ (front ++ 10 ∷ [])
    of_byte true is e = ap (λ t. 10 ∷ t) e ∙ ap (λ x. x ∷ (front ++ 10 ∷ [])) (sym (is refl))
    of_byte false is e = joined b (lines_of false (front ++ 10 ∷ [])) front e

-- A line with its line feed: no other one is in it.
pub record IsFed (line : List ℕ) : Type 0 where
  pub front : List ℕ
  pub clean : NoFeed front
  pub is : line ≡ front ++ 10 ∷ []

-- Lines that are fed are the lines of their text.
pub lines_in-concat : (lines : List (List ℕ)) → All IsFed lines → lines_in (concat lines) ≡ lines
lines_in-concat [] fed = refl
lines_in-concat (line ∷ lines) fed =
    let first = All-head IsFed line lines fed in
    let rest = lines_in-concat lines (All-tail IsFed line lines fed) in
    let text : line ++ concat lines ≡ first.front ++ 10 ∷ concat lines =
    ap (λ l. l ++ concat lines) first.is ∙ append_assoc first.front (10 ∷ []) (concat lines) in
    ap lines_in text
    ∙ ap (map (λ (l : List ℕ). l ++ 10 ∷ [])) (lines_of-line false first.front (concat lines) first.clean)
    ∙ ap (λ l. l ∷ lines_in (concat lines)) (sym first.is)
    ∙ ap (λ ls. line ∷ ls) rest
