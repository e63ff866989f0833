-- How long the lines of replies are at most.
use Rattle.std.proofs.Common.{ℕ, ◌+◌, ◌*◌, ◌/◌, ◌%◌, ◌≤◌, List, [], ◌∷◌, ◌++◌, All, Bool, true, false, IsTrue}
use Rattle.std.proofs.Common.{nat_eq, if◌then◌else◌, zero, suc, length, arith, codes, decimal, length-append}
use Rattle.std.proofs.Common.{None, Some, ap, inl, inr}
use Rattle.std.proofs.lemmas.Bool.{cases_lt}
use Rattle.std.proofs.lemmas.Bool.Decides.{nat_tests}
use Rattle.std.proofs.lemmas.Fmt.{length-decimal-le}
use Rattle.std.proofs.lemmas.List.{get_or_past}
use Rattle.std.proofs.lemmas.List.Elements.{All-head, All-tail}
use Rattle.std.specs.Fmt.{digit_glyph, digits, digits_onto}
use Rattle.std.specs.declared.option.Option.{Option}
use Rattle.cut_model.specs.Net.{Net}
use Rattle.cut_model.specs.declared.network.Link.{Link}
use Rattle.cut_model.specs.declared.network.TheConstants.{MOST_ROUTERS}
use Rattle.network_text.specs.Sheets.{IsSheet}
use Rattle.network_text.specs.Writing.{link_text, name_at, router_text}
use Rattle.text_forms.specs.Names.{is_name}
use Rattle.query_lang.specs.Replies.{bye_text, cut_head, cut_text, head_text, line_piece, loaded_text, name_piece}
use Rattle.query_lang.specs.Replies.{refused_text, side_names}
use Rattle.query_lang.specs.Trees.{edge_line}
use Rattle.reply_lines.specs.declared.run.TheConstants.{MOST_REPLY_LINE_BYTES}

-- Digits put before others are at most as many as are asked for.
length-digits_onto : (k base : ℕ) (upper : Bool) (n : ℕ) (behind : List ℕ)
    → length (digits_onto k base upper n behind) ≤ k + length behind
length-digits_onto zero base upper n behind = omega arith
length-digits_onto (suc k) base upper n behind =
    let longer = digit_glyph upper (n % base) ∷ behind in
    let rest = digits_onto k base upper (n / base) longer in
    let more = length-digits_onto k base upper (n / base) longer in
    elim (nat_eq (n / base) 0) as (λ last. length (if last then longer else rest) ≤ suc k + length behind)
    [ true ↦ omega arith | false ↦ omega arith ]

-- A number of any size is written with at most 64 digits.
digits_64 : (n : ℕ) → length (decimal n) ≤ 64
unfolding digits
digits_64 n = length-digits_onto 64 10 false n []

-- The reply to the end of a session fits one line's room.
pub length-bye_text : (version : ℕ) → length (bye_text version) ≤ MOST_REPLY_LINE_BYTES
unfolding bye_text
length-bye_text version = simp length-append (omega (arith, digits_64 version))

-- The line of a refusal, with the word before it.
length-line_piece : (line : Option ℕ) → length (line_piece line) ≤ 70
length-line_piece None = omega arith
length-line_piece (Some line) = simp length-append (omega (arith, digits_64 line))

-- A refusal fits one line's room.
pub length-refused_text : (version number : ℕ) (line : Option ℕ)
    → length (refused_text version number line) ≤ MOST_REPLY_LINE_BYTES
unfolding refused_text
length-refused_text version number line =
    let piece = length-line_piece line in
    simp length-append (omega (arith, digits_64 version, digits_64 number))

-- The reply to an accepted network fits one line's room.
pub length-loaded_text : (version : ℕ) (net : Net) → length (loaded_text version net) ≤ MOST_REPLY_LINE_BYTES
unfolding loaded_text
length-loaded_text version net =
    simp length-append (omega (arith, digits_64 version, digits_64 net.routers, digits_64 (length net.links)))

-- A name has at most 32 bytes, and a space stands before it.
length-name_piece : (name : List ℕ) (inside : Bool) → length name ≤ 32 → length (name_piece name inside) ≤ 33
length-name_piece name true short = simp length-append (omega arith)
length-name_piece name false short = omega arith

-- The first words of a reply that tells a cut, with a word of at most eight letters.
length-cut_head : (version value : ℕ) (word : List ℕ) → length word ≤ 8
    → length (cut_head version word value) ≤ 144
length-cut_head version value word short =
    simp length-append (omega (arith, digits_64 version, digits_64 value))

-- A name is short.
name_short : (name : List ℕ) → IsTrue (is_name name) → length name ≤ 32
name_short name named = grind (arith, nat_tests)

-- The names of a side, with the spaces before them.
length-side_names : (names : List (List ℕ)) (side : List Bool) → All (λ name. IsTrue (is_name name)) names
    → length (side_names names side) ≤ 33 * length names
length-side_names [] side named = omega arith
length-side_names (name ∷ names) [] named = omega arith
length-side_names (name ∷ names) (inside ∷ side) named =
    let first = name_short name (All-head (λ text. IsTrue (is_name text)) name names named) in
    let here = length-name_piece name inside first in
    let behind = length-side_names names side (All-tail (λ text. IsTrue (is_name text)) name names named) in
    omega (arith, length-append (name_piece name inside) (side_names names side), here, behind)

-- The line that tells a cut is no longer than a line may be.
pub length-cut_line : (version value : ℕ) (word : List ℕ) (names : List (List ℕ)) (net : Net) (side : List Bool)
    → length word ≤ 8 → IsSheet names net → length (cut_text version word value names side) ≤ MOST_REPLY_LINE_BYTES
unfolding cut_text
length-cut_line version value word names net side short sheet =
    let head = length-cut_head version value word short in
    let tail = length-side_names names side sheet.named in
    let routers : net.routers ≤ MOST_ROUTERS = sheet.limits.few_routers in
    let all = side_names names side ++ codes "\n" in
    let length_all = length-append (side_names names side) (codes "\n") in
    omega (arith, head, tail, routers, sheet.numbered, length-append (cut_head version word value) all, length_all)

-- The name of a router; past the last one there is no byte.
length-name_at : (names : List (List ℕ)) (router : ℕ) → All (λ name. IsTrue (is_name name)) names
    → length (name_at names router) ≤ 32
length-name_at names router named =
    elim (cases_lt router (length names)) [
      | inl within ↦ name_short (name_at names router) (named router [] within)
      | inr past ↦ omega (arith, ap length (get_or_past names router [] past))
    ]

-- The line of a router, by its name.
pub length-router_text : (name : List ℕ) → IsTrue (is_name name) → length (router_text name) ≤ 40
length-router_text name named = simp length-append (omega (arith, name_short name named))

-- The line of a link: its capacity has at most 13 digits.
pub length-link_text : (names : List (List ℕ)) (link : Link) → All (λ name. IsTrue (is_name name)) names
    → link.cap ≤ 1000000000000 → length (link_text names link) ≤ 85
length-link_text names link named small =
    let first = length-name_at names link.a named in
    let second = length-name_at names link.b named in
    let cap = length-decimal-le 13 link.cap (omega arith) (omega arith) (omega arith) in
    simp length-append (omega (arith, first, second, cap))

-- The line of an edge: two names, and a number.
pub length-edge_line : (names : List (List ℕ)) (child above number : ℕ) → All (λ name. IsTrue (is_name name)) names
    → length (edge_line names child above number) ≤ 131
length-edge_line names child above number named =
    let first = length-name_at names child named in
    let second = length-name_at names above named in
    simp length-append (omega (arith, first, second, digits_64 number))

-- The first line of a reply, with a word of at most eight letters.
pub length-short_head : (version lines : ℕ) (word : List ℕ) → length word ≤ 8
    → length (head_text version word lines) ≤ 140
length-short_head version lines word short =
    simp length-append (omega (arith, digits_64 version, digits_64 lines))
