-- The known lines of a certificate, and its routers.
use Rattle.std.proofs.Common.{◌≡◌, ◌≢◌, ℕ, suc, ◌+◌, ◌-◌, ◌<◌, ◌≤◌, List}
use Rattle.std.proofs.Common.{[], ◌∷◌, ◌++◌, All, Bool, true, false, IsTrue}
use Rattle.std.proofs.Common.{length, length-append, map, codes, refl, sym, ap, ◌∙◌, arith, nat_lt, if◌then◌else◌}
use Rattle.std.proofs.Common.{slice_index_or}
use Rattle.std.proofs.lemmas.List.{get_or_append_left, length-map}
use Rattle.std.proofs.lemmas.List.Elements.{All-append, All-cons, All-map, All-nil, All-weaker}
use Rattle.std.proofs.lemmas.List.FromFn.{get_or-map-range_with_len, length-map-range_with_len}
use Rattle.std.proofs.Math.Seq.{get_or-append_seam}
use Rattle.std.specs.Prelude.{slice_index}
use Rattle.cut_model.specs.Net.{IsLink, Net}
use Rattle.cut_model.specs.Terminals.{root_of}
use Rattle.network_text.specs.Sheets.{IsSheet, SheetView}
use Rattle.network_text.specs.Writing.{link_text, router_text, sheet_lines, text_lines}
use Rattle.reply_lines.specs.declared.run.TheConstants.{MOST_REPLY_LINE_BYTES}
use Rattle.text_forms.specs.Names.{is_name}
use Rattle.certifier.specs.Blocks.{certificate_layout, root_text, router_but, routers_but}
use Rattle.certifier.specs.Lines.{IsLowerEnd}
use Rattle.certifier.proofs.Lengths.{length-link_text, length-root_text, length-router_text}

-- A line that isn't too long.
abbrev pub IsShort : List ℕ → Type 0
IsShort line = length line ≤ MOST_REPLY_LINE_BYTES

-- The text of a network has so many lines.
pub length-text_lines : (sheet : SheetView) → length sheet.names ≡ sheet.net.routers
    → length (text_lines sheet) ≡ sheet_lines sheet
length-text_lines sheet numbered =
    let links = map (link_text sheet.names) sheet.net.links in
    omega (
      arith,
      numbered,
      length-append (map router_text sheet.names) (links ++ codes "END\n" ∷ []),
      length-append links (codes "END\n" ∷ []),
      length-map sheet.names router_text,
      length-map sheet.net.links (link_text sheet.names),
    )

-- Two lines more are in front of the blocks of a certificate.
pub length-front : (sheet : SheetView) → length sheet.names ≡ sheet.net.routers
    → length (certificate_layout sheet).front ≡ sheet_lines sheet + 2
length-front sheet numbered =
    let root = root_text sheet.names (root_of sheet.net) ∷ [] in
    omega (arith, length-text_lines sheet numbered, length-append (text_lines sheet) root)

-- A line of the network stands behind the title,
pub front_of_text : (sheet : SheetView) (place : ℕ) → place ≢ 0 → place - 1 < length (text_lines sheet)
    → slice_index_or (text_lines sheet) (place - 1) [] ≡ slice_index_or (certificate_layout sheet).front place []
front_of_text sheet place behind within =
    let root = root_text sheet.names (root_of sheet.net) ∷ [] in
    let front = (certificate_layout sheet).front in
    let next : suc (place - 1) ≡ place = omega (arith, behind) in
    sym (get_or_append_left (text_lines sheet) root [] (place - 1) within)
    ∙ ap (λ (i : ℕ). slice_index_or front i []) next

-- and the root behind them.
pub front_of_root : (sheet : SheetView) (place : ℕ) → place ≡ length (text_lines sheet) + 1
    → root_text sheet.names (root_of sheet.net) ≡ slice_index_or (certificate_layout sheet).front place []
front_of_root sheet place is =
    let root = root_text sheet.names (root_of sheet.net) in
    let front = (certificate_layout sheet).front in
    let next : suc (length (text_lines sheet)) ≡ place = omega (arith, is) in
    sym (get_or-append_seam (text_lines sheet) root [] []) ∙ ap (λ (i : ℕ). slice_index_or front i []) next

-- Each line of the text of a network is short,
text_short : (sheet : SheetView) → IsSheet sheet.names sheet.net → All IsShort (text_lines sheet)
text_short sheet is =
    let routers = All-map IsShort router_text sheet.names (All-weaker (λ name. IsTrue (is_name name))
    (λ name. IsShort (router_text name))
    (λ name named. let small = length-router_text name named in omega (arith, small)) sheet.names is.named) in
    let links = All-map IsShort (link_text sheet.names) sheet.net.links (All-weaker (IsLink sheet.net.routers)
    (λ link. IsShort (link_text sheet.names link))
    (λ link joins. let small = length-link_text sheet.names link is.named joins.cap in omega (arith, small))
    sheet.net.links is.limits.within) in
    let end : IsShort (codes "END\n") = omega arith in
    All-append IsShort (map router_text sheet.names)
    (map (link_text sheet.names) sheet.net.links ++ codes "END\n" ∷ [])
    routers (All-append IsShort (map (link_text sheet.names) sheet.net.links) (codes "END\n" ∷ []) links
    (All-cons IsShort (codes "END\n") [] end (All-nil IsShort)))

-- and so is each line in front of the blocks of a certificate.
pub front_short : (sheet : SheetView) → IsSheet sheet.names sheet.net → All IsShort (certificate_layout sheet).front
front_short sheet is =
    let root = root_text sheet.names (root_of sheet.net) in
    let small = length-root_text sheet.names (root_of sheet.net) is.named in
    let short : IsShort root = omega (arith, small) in
    let title : IsShort (codes "cut tree 1\n") = omega arith in
    All-cons IsShort (codes "cut tree 1\n") (text_lines sheet ++ root ∷ []) title
    (All-append IsShort (text_lines sheet) (root ∷ []) (text_short sheet is)
    (All-cons IsShort root [] short (All-nil IsShort)))

-- There is one router fewer than all.
pub length-routers_but : (root n : ℕ) → length (routers_but root n) ≡ n - 1
length-routers_but root n = length-map-range_with_len (router_but root) 0 (n - 1)

-- The router of a place of them,
pub routers_but-at : (root n i : ℕ) → i < n - 1 → slice_index (routers_but root n) i ≡ router_but root i
routers_but-at root n i low = get_or-map-range_with_len (router_but root) 0 (n - 1) i i 0 low (omega arith)

-- which isn't the root.
pub router_but-lower : (net : Net) (i : ℕ) → i < net.routers - 1 → IsLowerEnd net (router_but (root_of net) i)
router_but-lower net i low = of_test (nat_lt i (root_of net)) refl
  where
    of_test : (before : Bool) → nat_lt i (root_of net) ≡ before
        → IsLowerEnd net (if before then i else i + 1)
    of_test true is = record { within = omega arith; not_root = grind (arith, is) }
    of_test false is = record { within = omega arith; not_root = grind (arith, is) }
