-- The lines of an edge and of its flow are taken again.
use Rattle.std.proofs.Common.{◌≡◌, ◌≢◌, ℕ, ◌+◌, ◌≤◌, ◌<◌, List}
use Rattle.std.proofs.Common.{[], ◌∷◌, ◌++◌, false, length, codes}
use Rattle.std.proofs.Common.{decimal, refl, sym, ap, ◌∙◌, arith}
use Rattle.std.proofs.Common.{length-append, inl, inr, get_or}
use Rattle.std.proofs.lemmas.Bool.{cases_eq, cases_lt, eq-eqb, false≢true, le-ltb, lt-ltb, ne_eqb}
use Rattle.std.proofs.lemmas.Bool.Decides.{Decides-int_eq}
use Rattle.std.proofs.lemmas.Fmt.{length-decimal-le}
use Rattle.std.proofs.lemmas.List.Folds.{list_any_none}
use Rattle.std.proofs.lemmas.List.FromFn.{get_or-range_with_len, length-range_with_len}
use Rattle.std.specs.Fmt.{signed_decimal}
use Rattle.std.specs.List.{range_with_len}
use Rattle.std.specs.Prelude.{ℤ, pos, nat_abs}
use Rattle.cut_model.specs.Flow.{IsFlow, out}
use Rattle.cut_model.specs.Net.{Net}
use Rattle.cut_model.specs.Terminals.{root_of}
use Rattle.cut_model.specs.declared.network.TheConstants.{MOST_CAPACITY, MOST_VALUE}
use Rattle.cut_model.proofs.Costs.{cut_value-most}
use Rattle.cut_model.proofs.Terminals.{all_terminals, terminal-lt}
use Rattle.text_forms.specs.declared.lines.TheConstants.{MOST_LINE_BYTES}
use Rattle.text_forms.proofs.Decimals.{IsWord-decimal, number_in-decimal}
use Rattle.text_forms.proofs.Written.{IsLineOf, IsLineOf-spaced, IsWord-from_test, IsWord-name, length-name, spaced}
use Rattle.network_text.specs.Sheets.{IsSheet, SheetView}
use Rattle.network_text.specs.Writing.{name_at}
use Rattle.network_text.proofs.RereadingLines.{name_at-is_name}
use Rattle.tree_state.specs.Tables.{Table, below}
use Rattle.tree_state.specs.Trees.{CutsBelow, IsCutTree}
use Rattle.certifier.specs.Blocks.{router_but}
use Rattle.certifier.specs.Certificates.{Between, GoesOn, Within, link_at, take_flow, take_line}
use Rattle.certifier.specs.Trees.{Edge, Told, keeps_some, leaks}
use Rattle.certifier.proofs.RereadFlows.{IsWord-signed, length-value, signed_in-signed_decimal}
use Rattle.certifier.proofs.RereadFront.{number_of-name_at}
use Rattle.certifier.proofs.RereadLines.{counts, short_words-are}

-- ---- the routers with an edge above them

-- These tables are a cut tree of the network of a sheet.
pub record Shows (sheet : SheetView) (up width : Table) : Type 0 where
  pub is : IsSheet sheet.names sheet.net
  pub tree : IsCutTree sheet.net (root_of sheet.net) up width

-- What is known of a router other than the root.
pub record IsChild (sheet : SheetView) (up width : Table) (c : ℕ) : Type 0 where
  pub low : c < length sheet.names
  pub above : up c < length sheet.names
  pub apart : up c ≢ c
  pub cut : CutsBelow sheet.net up width c
  pub small : width c ≤ MOST_VALUE

-- Each router but the root is such a lower end.
pub child_is : {sheet : SheetView} {up width : Table} → Shows sheet up width → (c : ℕ) → c < sheet.net.routers
    → c ≢ root_of sheet.net → IsChild sheet up width c
child_is {sheet = sheet} {up = up} {width = width} shows c low other =
    let cut = shows.tree.cuts c (all_terminals sheet.net c low) other in
    let above = terminal-lt sheet.net (up c) (shows.tree.up_is c low) in
    let set = below sheet.net.routers up c in
    record {
      low = rw shows.is.numbered low;
      above = rw shows.is.numbered above;
      apart = λ same. false≢true (sym cut.lacks ∙ ap set same ∙ cut.holds);
      cut = cut;
      small = omega (arith, cut.value, cut_value-most sheet.net shows.is.limits set);
    }

-- All routers but the root are in range,
pub router_but-low : (root i n : ℕ) → root < n → i + 1 < n → router_but root i < n
router_but-low root i n some within = elim (cases_lt i root) [
  | inl before ↦ rw (lt-ltb i root before) (omega arith)
  | inr behind ↦ rw (le-ltb i root behind) (omega arith)
]

-- and none is the root.
pub router_but-other : (root i : ℕ) → router_but root i ≢ root
router_but-other root i = elim (cases_lt i root) [
  | inl before ↦ rw (lt-ltb i root before) (λ e. omega arith)
  | inr behind ↦ rw (le-ltb i root behind) (λ e. omega arith)
]

-- ---- the line of an edge

-- The words of the edge above a router.
abbrev edge_words_of : List (List ℕ) → Table → Table → ℕ → List (List ℕ)
edge_words_of names up width c = codes "edge" ∷ name_at names c ∷ name_at names (up c) ∷ decimal (width c) ∷ []

-- Its line, without the line feed.
abbrev pub edge_front : List (List ℕ) → Table → Table → ℕ → List ℕ
edge_front names up width c = spaced (edge_words_of names up width c)

-- It has these words, is short, and has no line feed.
pub edge_line : {sheet : SheetView} {up width : Table} {c : ℕ} → IsSheet sheet.names sheet.net
    → IsChild sheet up width c
    → IsLineOf (edge_words_of sheet.names up width c) (edge_front sheet.names up width c)
edge_line {sheet = sheet} {up = up} {width = width} {c = c} is child =
    let first = name_at sheet.names c in
    let second = name_at sheet.names (up c) in
    let number = decimal (width c) in
    let first_named = name_at-is_name sheet.names c is.named child.low in
    let second_named = name_at-is_name sheet.names (up c) is.named child.above in
    let small = child.small in
    let first_short = length-name first first_named in
    let second_short = length-name second second_named in
    let number_short : length number ≤ 16 = length-decimal-le 16 (width c) (omega arith) (omega arith) (omega arith) in
    let short : length (codes "edge" ++ 32 ∷ (first ++ 32 ∷ (second ++ 32 ∷ number))) ≤ MOST_LINE_BYTES =
    simp length-append (omega arith) in
    IsLineOf-spaced (edge_words_of sheet.names up width c) (
      IsWord-from_test (codes "edge") refl,
      (IsWord-name first first_named, (IsWord-name second second_named, (IsWord-decimal (width c) (omega arith), tt))),
    ) short

-- What is told with these edges.
abbrev pub told_by : SheetView → List Edge → Told
told_by sheet edges = record { sheet = sheet; root = root_of sheet.net; edges = edges }

-- The edge above a router, told in a line of this number, with the front of a flow.
abbrev pub edge_at : ℕ → Table → Table → ℕ → List ℤ → Edge
edge_at number up width c flow = record { line = number; child = c; up = up c; width = width c; flow = flow }

-- The line of the next edge is taken.
pub take-edge : {sheet : SheetView} {up width : Table} {c : ℕ} (number : ℕ) (edges : List Edge)
    → IsSheet sheet.names sheet.net → IsChild sheet up width c → number ≢ 1 → length edges + 1 < sheet.net.routers
    → c ≡ router_but (root_of sheet.net) (length edges)
    → take_line number (Between (told_by sheet edges)) (edge_front sheet.names up width c)
    ≡ take_flow (told_by sheet edges) (edge_at number up width c [])
take-edge {sheet = sheet} {up = up} {width = width} {c = c} number edges is child later more next =
    let words = edge_line is child in
    let small = child.small in
    counts number (Between (told_by sheet edges)) words (λ e. absurd (omega arith)) later
    ∙ rw (
      lt-ltb (length edges + 1) sheet.net.routers more,
      short_words-are words,
      number_of-name_at sheet.names c is.distinct child.low,
      number_of-name_at sheet.names (up c) is.distinct child.above,
      eq-eqb c (router_but (root_of sheet.net) (length edges)) next,
      ne_eqb (up c) c child.apart,
      number_in-decimal (width c) (omega arith),
    ) refl

-- ---- the line of a value

-- Its line, without the line feed.
abbrev pub on_front : ℤ → List ℕ
on_front value = spaced (codes "on" ∷ signed_decimal value ∷ [])

-- It has these words, is short, and has no line feed.
pub on_line : (value : ℤ) → nat_abs value ≤ MOST_CAPACITY
    → IsLineOf (codes "on" ∷ signed_decimal value ∷ []) (on_front value)
on_line value small =
    let number_short = length-value value small in
    let short : length (codes "on" ++ 32 ∷ signed_decimal value) ≤ MOST_LINE_BYTES =
    simp length-append (omega arith) in
    IsLineOf-spaced (codes "on" ∷ signed_decimal value ∷ [])
    (IsWord-from_test (codes "on") refl, (IsWord-signed value (omega arith), tt)) short

-- The line of a value that its link takes is taken.
pub take-value : (number : ℕ) (told : Told) (edge : Edge) (value : ℤ) → number ≢ 1
    → nat_abs value ≤ (link_at told.sheet.net (length edge.flow)).cap → nat_abs value ≤ MOST_CAPACITY
    → take_line number (Within told edge) (on_front value)
    ≡ take_flow told (record edge { flow = edge.flow ++ value ∷ [] })
take-value number told edge value later fits small =
    let words = on_line value small in
    counts number (Within told edge) words (λ e. absurd (omega arith)) later
    ∙ rw (
      short_words-are words,
      signed_in-signed_decimal value (omega arith),
      le-ltb (link_at told.sheet.net (length edge.flow)).cap (nat_abs value) fits,
    ) refl

-- ---- a whole flow

-- A flow of the edge stays in no other router,
kept : (net : Net) (edge : Edge) (r : ℕ) → IsFlow net edge.child edge.up edge.flow edge.width → r < net.routers
    → keeps_some net edge r ≡ false
kept net edge r flow low = elim (cases_eq r edge.child) [
  | inl first ↦ rw (eq-eqb r edge.child first) refl
  | inr no_first ↦ elim (cases_eq r edge.up) [
    | inl second ↦ rw (ne_eqb r edge.child no_first, eq-eqb r edge.up second) refl
    | inr no_second ↦ rw (
      ne_eqb r edge.child no_first,
      ne_eqb r edge.up no_second,
      (Decides-int_eq (out r net.links edge.flow) (pos 0)).1 (flow.kept r low no_first no_second),
    ) refl
  ]
]

-- so that nothing leaks,
no_leak : (net : Net) (edge : Edge) → IsFlow net edge.child edge.up edge.flow edge.width → leaks net edge ≡ false
no_leak net edge flow =
    list_any_none (keeps_some net edge) (range_with_len 0 net.routers) (λ k d within.
    let low : k < net.routers = omega (arith, length-range_with_len 0 net.routers) in
    let same : 0 + k ≡ k = omega arith in
    let at : get_or (range_with_len 0 net.routers) k d ≡ k =
    get_or-range_with_len 0 net.routers k d low ∙ same in
    ap (keeps_some net edge) at ∙ kept net edge k flow low)

-- and with its last value it is taken whole.
pub take-whole : (told : Told) (edge : Edge) → IsFlow told.sheet.net edge.child edge.up edge.flow edge.width
    → length edge.flow ≡ length told.sheet.net.links
    → take_flow told edge ≡ GoesOn (Between (record told { edges = told.edges ++ edge ∷ [] }))
take-whole told edge flow whole =
    rw (
      le-ltb (length edge.flow) (length told.sheet.net.links) (omega arith),
      no_leak told.sheet.net edge flow,
      (Decides-int_eq (out edge.child told.sheet.net.links edge.flow) (pos edge.width)).1 flow.sent,
    ) refl
