-- Lines as they are written: words with one space between each two.
use Rattle.std.proofs.Common.{◌≡◌, ◌≢◌, ℕ, ◌+◌, ◌≤◌, ◌<◌, List, [], ◌∷◌, ◌++◌, Bool, true, false, ◌&&◌, All, length}
use Rattle.std.proofs.Common.{nat_lt, nat_le, map, refl, sym, ap, ◌∙◌, arith, append_assoc, take_all}
use Rattle.std.specs.List.{list_all, concat, AllByRecursion}
use Rattle.std.proofs.lemmas.Bool.{and_parts, leb-true, ltb-true, le-ltb, ne_eqb}
use Rattle.std.proofs.lemmas.Bool.Decides.{nat_tests}
use Rattle.std.proofs.lemmas.List.{append-nil}
use Rattle.std.proofs.lemmas.List.Elements.{All-append, All-cons, All-head, All-tail, All-nil, All-weaker}
use Rattle.std.proofs.lemmas.List.Sums.{AllPass-from_list_all, list_all-from_AllPass}
use Rattle.text_forms.specs.declared.lines.TheConstants.{MOST_LINE_BYTES}
use Rattle.text_forms.specs.declared.names.TheConstants.{MOST_NAME_BYTES}
use Rattle.text_forms.specs.Lines.{NoFeed, front_of, fronts_of, is_long}
use Rattle.text_forms.specs.Names.{is_name, is_name_byte}
use Rattle.text_forms.specs.Words.{is_passed, is_end, line_words, words_of, without_return}
use Rattle.text_forms.proofs.LinesOf.{fronts_of-line}
use Rattle.text_forms.proofs.Splitting.{words-of_word, is_letter}

-- A word: one byte or more, each above the space.
pub record IsWord (word : List ℕ) : Type 0 where
  pub some : 0 < length word
  pub bytes : All (λ b. 32 < b) word

-- Whether bytes are such a word.
abbrev pub is_word : List ℕ → Bool
is_word word = nat_lt 0 (length word) && list_all (nat_lt 32) word

-- A word of which this is computed.
pub IsWord-from_test : (word : List ℕ) → is_word word ≡ true → IsWord word
IsWord-from_test word passes =
    let parts = and_parts (nat_lt 0 (length word)) (list_all (nat_lt 32) word) passes in
    let above = AllPass-from_list_all (nat_lt 32) word parts.1 in
    record {
      some = ltb-true 0 (length word) parts.0;
      bytes = All-weaker (λ b. nat_lt 32 b ≡ true) (λ b. 32 < b) (λ b. ltb-true 32 b) word above;
    }

-- A byte of a name is above the space.
name_byte-above : (b : ℕ) → is_name_byte b ≡ true → 32 < b
name_byte-above b is = grind (arith, nat_tests)

-- A name has a byte, and not too many.
name_size : (name : List ℕ) → is_name name ≡ true → (0 < length name) × (length name ≤ MOST_NAME_BYTES)
name_size name is =
    let sized = nat_lt 0 (length name) && nat_le (length name) MOST_NAME_BYTES in
    let size = and_parts sized (list_all is_name_byte name) is in
    let parts = and_parts (nat_lt 0 (length name)) (nat_le (length name) MOST_NAME_BYTES) size.0 in
    (ltb-true 0 (length name) parts.0, leb-true (length name) MOST_NAME_BYTES parts.1)

-- So it is short.
pub length-name : (name : List ℕ) → is_name name ≡ true → length name ≤ MOST_NAME_BYTES
length-name name is = (name_size name is).1

-- A name is a word of a line.
pub IsWord-name : (name : List ℕ) → is_name name ≡ true → IsWord name
IsWord-name name is =
    let sized = nat_lt 0 (length name) && nat_le (length name) MOST_NAME_BYTES in
    let all = AllPass-from_list_all is_name_byte name (and_parts sized (list_all is_name_byte name) is).1 in
    record {
      some = (name_size name is).0;
      bytes = All-weaker (λ b. is_name_byte b ≡ true) (λ b. 32 < b) name_byte-above name all;
    }

-- Words with one space between each two.
abbrev pub spaced : List (List ℕ) → List ℕ
spaced [] = []
spaced (word ∷ []) = word
spaced (word ∷ second ∷ words) = word ++ 32 ∷ spaced (second ∷ words)

-- A byte above the space is no blank.
letter : (b : ℕ) → 32 < b → is_letter b ≡ true
letter b above = rw (ne_eqb b 32 (λ e. omega arith), ne_eqb b 9 (λ e. omega arith)) refl

-- No byte of a word is a blank.
letters : (word : List ℕ) → All (λ b. 32 < b) word → list_all is_letter word ≡ true
letters word above =
    list_all-from_AllPass is_letter word (All-weaker (λ b. 32 < b) (λ b. is_letter b ≡ true) letter word above)

-- Spaced words are words again.
words_of-spaced : (words : List (List ℕ)) → AllByRecursion IsWord words → words_of (spaced words) ≡ words
words_of-spaced [] are = refl
words_of-spaced ([] ∷ words) are = let some = are.0.some in absurd (omega arith)
words_of-spaced ((b ∷ word) ∷ []) are =
    ap words_of (sym (append-nil (b ∷ word))) ∙ words-of_word b word [] (letters (b ∷ word) are.0.bytes) refl
words_of-spaced ((b ∷ word) ∷ second ∷ words) are =
    words-of_word b word (32 ∷ spaced (second ∷ words)) (letters (b ∷ word) are.0.bytes) refl
    ∙ ap (λ ws. (b ∷ word) ∷ ws) (words_of-spaced (second ∷ words) are.1)

-- Each byte of spaced words is a space or above it.
bytes-spaced : (words : List (List ℕ)) → AllByRecursion IsWord words → All (λ b. 32 ≤ b) (spaced words)
bytes-spaced [] are = All-nil (λ b. 32 ≤ b)
bytes-spaced (word ∷ []) are = All-weaker (λ b. 32 < b) (λ b. 32 ≤ b) (λ b h. omega arith) word are.0.bytes
bytes-spaced (word ∷ second ∷ words) are =
    let first = All-weaker (λ b. 32 < b) (λ b. 32 ≤ b) (λ b h. omega arith) word are.0.bytes in
    let rest = bytes-spaced (second ∷ words) are.1 in
    All-append (λ b. 32 ≤ b) word (32 ∷ spaced (second ∷ words)) first
    (All-cons (λ b. 32 ≤ b) 32 (spaced (second ∷ words)) (omega arith) rest)

-- Bytes without a carriage return stay as they are.
without_return-none : (bytes : List ℕ) → All (λ b. b ≢ 13) bytes → without_return bytes ≡ bytes
without_return-none [] none = refl
without_return-none (b ∷ []) none = rw (ne_eqb b 13 (All-head (λ b. b ≢ 13) b [] none)) refl
without_return-none (b ∷ c ∷ bytes) none =
    ap (λ rest. b ∷ rest) (without_return-none (c ∷ bytes) (All-tail (λ b. b ≢ 13) b (c ∷ bytes) none))

-- A line of these words, which isn't too long and has no line feed.
pub record IsLineOf (words : List (List ℕ)) (line : List ℕ) : Type 0 where
  pub parts : line_words line ≡ words
  pub short : length line ≤ MOST_LINE_BYTES
  pub clean : NoFeed line

-- Spaced words are a line of these words.
pub IsLineOf-spaced : (words : List (List ℕ)) → AllByRecursion IsWord words → length (spaced words) ≤ MOST_LINE_BYTES
    → IsLineOf words (spaced words)
IsLineOf-spaced words are short =
    let bytes = bytes-spaced words are in
    let none = All-weaker (λ b. 32 ≤ b) (λ b. b ≢ 13) (λ b h e. omega arith) (spaced words) bytes in
    record {
      parts = ap words_of (without_return-none (spaced words) none) ∙ words_of-spaced words are;
      short = short;
      clean = All-weaker (λ b. 32 ≤ b) (λ b. b ≢ 10) (λ b h e. omega arith) (spaced words) bytes;
    }

-- Such a line isn't too long.
pub is_long-short : {words : List (List ℕ)} {line : List ℕ} → IsLineOf words line → is_long line ≡ false
is_long-short {line = line} is = le-ltb MOST_LINE_BYTES (length line) is.short

-- It is passed over only where its words make a remark.
pub is_passed-word : {b : ℕ} {word : List ℕ} {words : List (List ℕ)} {line : List ℕ}
    → IsLineOf ((b ∷ word) ∷ words) line → b ≢ 35 → is_passed line ≡ false
is_passed-word {b = b} is other = rw (is_long-short is, is.parts, ne_eqb b 35 other) refl

-- A line of more than one word doesn't end a text.
pub is_end-more : {word second : List ℕ} {words : List (List ℕ)} {line : List ℕ}
    → IsLineOf (word ∷ second ∷ words) line → is_end line ≡ false
is_end-more is = rw (is_long-short is, is.parts) refl

-- What is looked at of such a line is the whole line.
front_of-short : {words : List (List ℕ)} {line : List ℕ} → IsLineOf words line → front_of line ≡ line
front_of-short {line = line} is = let short = is.short in take_all (MOST_LINE_BYTES + 1) line (omega arith)

-- Lines that are written with a line feed behind each are read again, and what stands behind them is read after them.
pub fronts_of-written : {X : Type 0} (ended : Bool) (words : X → List (List ℕ)) (line : X → List ℕ) (xs : List X)
    (more : List ℕ) → AllByRecursion (λ x. IsLineOf (words x) (line x)) xs
    → fronts_of ended (concat (map (λ x. line x ++ 10 ∷ []) xs) ++ more) ≡ map line xs ++ fronts_of ended more
fronts_of-written ended words line [] more are = refl
fronts_of-written ended words line (x ∷ xs) more are =
    let rest = concat (map (λ x. line x ++ 10 ∷ []) xs) in
    let whole : ((line x ++ 10 ∷ []) ++ rest) ++ more ≡ line x ++ 10 ∷ (rest ++ more) = simp append_assoc in
    ap (fronts_of ended) whole ∙ fronts_of-line ended (line x) (rest ++ more) are.0.clean
    ∙ ap (λ l. l ∷ fronts_of ended (rest ++ more)) (front_of-short are.0)
    ∙ ap (λ ls. line x ∷ ls) (fronts_of-written ended words line xs more are.1)
