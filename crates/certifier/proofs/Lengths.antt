-- How long the lines that tell flows are at most.
use Rattle.std.proofs.Common.{ℕ, ◌<◌, ◌≤◌, ◌^◌, List, [], All, IsTrue, length, arith, length-append}
use Rattle.std.proofs.Common.{ap, inl, inr}
use Rattle.std.proofs.lemmas.Bool.{cases_lt}
use Rattle.std.proofs.lemmas.Bool.Decides.{nat_tests}
use Rattle.std.proofs.lemmas.Fmt.{length-decimal-le}
use Rattle.std.proofs.lemmas.List.{get_or_past}
use Rattle.cut_model.specs.declared.network.Link.{Link}
use Rattle.network_text.specs.Writing.{link_text, name_at, router_text}
use Rattle.text_forms.specs.Names.{is_name}
use Rattle.certifier.specs.Blocks.{root_text}
use Rattle.certifier.specs.Lines.{words_text}

-- A name is short.
name_short : (name : List ℕ) → IsTrue (is_name name) → length name ≤ 32
name_short name named = grind (arith, nat_tests)

-- The name of a router; past the last one there is no byte.
length-name_at : (names : List (List ℕ)) (router : ℕ) → All (λ name. IsTrue (is_name name)) names
    → length (name_at names router) ≤ 32
length-name_at names router named =
    elim (cases_lt router (length names)) [
      | inl within ↦ name_short (name_at names router) (named router [] within)
      | inr past ↦ omega (arith, ap length (get_or_past names router [] past))
    ]

-- The line of a router, by its name.
pub length-router_text : (name : List ℕ) → IsTrue (is_name name) → length (router_text name) ≤ 40
length-router_text name named = simp length-append (omega (arith, name_short name named))

-- The line of a link: its capacity has at most 13 digits.
pub length-link_text : (names : List (List ℕ)) (link : Link) → All (λ name. IsTrue (is_name name)) names
    → link.cap ≤ 1000000000000 → length (link_text names link) ≤ 85
length-link_text names link named small =
    let first = length-name_at names link.a named in
    let second = length-name_at names link.b named in
    let cap = length-decimal-le 13 link.cap (omega arith) (omega arith) (omega arith) in
    simp length-append (omega (arith, first, second, cap))

-- The line of the root.
pub length-root_text : (names : List (List ℕ)) (root : ℕ) → All (λ name. IsTrue (is_name name)) names
    → length (root_text names root) ≤ 38
length-root_text names root named = simp length-append (omega (arith, length-name_at names root named))

-- The line of a short word, two routers and a number of at most 16 digits.
pub length-words_text : (word : List ℕ) (names : List (List ℕ)) (child up width : ℕ) → length word ≤ 4
    → All (λ name. IsTrue (is_name name)) names → width < 10 ^ 16 → length (words_text word names child up width) ≤ 88
length-words_text word names child up width short named small =
    let first = length-name_at names child named in
    let second = length-name_at names up named in
    let digits = length-decimal-le 16 width (omega arith) (omega arith) (omega arith) in
    simp length-append (omega (arith, short, first, second, digits))
