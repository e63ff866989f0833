-- Texts without a line feed, and lines that end with their only one.
use Rattle.std.proofs.Common.{◌≡◌, ◌≢◌, ℕ, zero, suc, ◌/◌, ◌%◌, ◌<◌, List, [], ◌∷◌, ◌++◌, All, Bool, true, false}
use Rattle.std.proofs.Common.{IsTrue, nat_eq, not, if◌then◌else◌, length, arith, codes, decimal, refl, sym, ap, ◌∙◌}
use Rattle.std.proofs.Common.{append_assoc, inl, inr}
use Rattle.std.proofs.lemmas.Bool.{cases_lt}
use Rattle.std.proofs.lemmas.Bool.Decides.{nat_tests}
use Rattle.std.proofs.lemmas.List.{get_or_past}
use Rattle.std.proofs.lemmas.List.Elements.{All-append, All-cons, All-head, All-nil, All-tail, All-weaker}
use Rattle.std.proofs.lemmas.List.Sums.{AllPass-from_list_all}
use Rattle.std.specs.Fmt.{digit_glyph, digits, digits_onto}
use Rattle.std.specs.List.{AllByRecursion, concat, list_all}
use Rattle.text_forms.specs.Lines.{NoFeed}
use Rattle.text_forms.specs.Names.{is_name}
use Rattle.text_forms.proofs.Written.{IsWord-name}
use Rattle.network_text.specs.Writing.{name_at}
use Rattle.query_lang.specs.Replies.{name_piece, side_names}
use Rattle.reply_lines.proofs.Known.{IsFed}

-- A byte is no line feed.
abbrev no_feed : ℕ → Bool
no_feed b = not (nat_eq b 10)

-- A text of which this is computed has none.
pub NoFeed-from_test : (text : List ℕ) → list_all no_feed text ≡ true → NoFeed text
NoFeed-from_test text passes =
    All-weaker (λ b. no_feed b ≡ true) (λ b. b ≢ 10) (λ b is same. grind (arith, nat_tests)) text
    (AllPass-from_list_all no_feed text passes)

-- A digit is none.
digit_clean : (upper : Bool) (d : ℕ) → digit_glyph upper d ≢ 10
digit_clean true d same = grind (arith, nat_tests)
digit_clean false d same = grind (arith, nat_tests)

-- Digits before a text without one have none.
digits_clean : (k base : ℕ) (upper : Bool) (n : ℕ) (behind : List ℕ) → NoFeed behind
    → NoFeed (digits_onto k base upper n behind)
digits_clean zero base upper n behind clean = clean
digits_clean (suc k) base upper n behind clean =
    let longer = digit_glyph upper (n % base) ∷ behind in
    let here = All-cons (λ b. b ≢ 10) (digit_glyph upper (n % base)) behind (digit_clean upper (n % base)) clean in
    let rest = digits_onto k base upper (n / base) longer in
    let more = digits_clean k base upper (n / base) longer here in
    elim (nat_eq (n / base) 0) as (λ last. NoFeed (if last then longer else rest)) [ true ↦ here | false ↦ more ]

-- A written number has none.
pub decimal_clean : (n : ℕ) → NoFeed (decimal n)
unfolding digits
decimal_clean n = digits_clean 64 10 false n [] (All-nil (λ b. b ≢ 10))

-- A name has none.
pub name_clean : (name : List ℕ) → IsTrue (is_name name) → NoFeed name
name_clean name is =
    All-weaker (λ b. 32 < b) (λ b. b ≢ 10) (λ b above same. omega arith) name (IsWord-name name is).bytes

-- The name of a router has none, and past the last one there is no byte.
pub name_at_clean : (names : List (List ℕ)) (router : ℕ) → All (λ name. IsTrue (is_name name)) names
    → NoFeed (name_at names router)
name_at_clean names router named =
    elim (cases_lt router (length names)) [
      | inl within ↦ name_clean (name_at names router) (named router [] within)
      | inr past ↦ rw (get_or_past names router [] past) (All-nil (λ b. b ≢ 10))
    ]

-- A space and the name of a router on a side has none,
name_piece_clean : (name : List ℕ) (inside : Bool) → NoFeed name → NoFeed (name_piece name inside)
name_piece_clean name true clean =
    All-append (λ b. b ≢ 10) (codes " ") (name ++ []) (NoFeed-from_test (codes " ") refl)
    (All-append (λ b. b ≢ 10) name [] clean (All-nil (λ b. b ≢ 10)))
name_piece_clean name false clean = All-nil (λ b. b ≢ 10)

-- nor have those of all of them.
pub side_names_clean : (names : List (List ℕ)) (side : List Bool) → All (λ name. IsTrue (is_name name)) names
    → NoFeed (side_names names side)
side_names_clean [] side named = All-nil (λ b. b ≢ 10)
side_names_clean (name ∷ names) [] named = All-nil (λ b. b ≢ 10)
side_names_clean (name ∷ names) (inside ∷ side) named =
    let first = name_clean name (All-head (λ text. IsTrue (is_name text)) name names named) in
    let behind = side_names_clean names side (All-tail (λ text. IsTrue (is_name text)) name names named) in
    let here = name_piece_clean name inside first in
    All-append (λ b. b ≢ 10) (name_piece name inside) (side_names names side) here behind

-- Pieces without one make a text without one,
pub concat_clean : (pieces : List (List ℕ)) → AllByRecursion NoFeed pieces → NoFeed (concat pieces)
concat_clean [] clean = All-nil (λ b. b ≢ 10)
concat_clean (piece ∷ pieces) clean =
    All-append (λ b. b ≢ 10) piece (concat pieces) clean.0 (concat_clean pieces clean.1)

-- and with a line feed behind them they are a line.
pub fed_pieces : (pieces : List (List ℕ)) → AllByRecursion NoFeed pieces → IsFed (concat (pieces ++ codes "\n" ∷ []))
fed_pieces [] clean = record { front = []; clean = All-nil (λ b. b ≢ 10); is = refl }
fed_pieces (piece ∷ pieces) clean =
    let rest = fed_pieces pieces clean.1 in
    record {
      front = piece ++ rest.front;
      clean = All-append (λ b. b ≢ 10) piece rest.front clean.0 rest.clean;
      is = ap (λ text. piece ++ text) rest.is ∙ sym (append_assoc piece rest.front (10 ∷ []));
    }
