-- The lines in front of a certificate's edges are taken again: the title, the network and the root.
use Rattle.std.proofs.Common.{◌≡◌, ℕ, ◌+◌, ◌≤◌, ◌<◌, List, [], ◌∷◌, ◌++◌, Bool, true, false, length, map, codes}
use Rattle.std.proofs.Common.{refl, sym, ap, ◌∙◌, arith, append_assoc, length-append, All, IsTrue, Some}
use Rattle.std.proofs.lemmas.Bool.{lt-ltb, ne_eqb}
use Rattle.std.proofs.lemmas.List.{map-append, map-id}
use Rattle.std.proofs.lemmas.List.Elements.{All-head, All-tail}
use Rattle.std.proofs.lemmas.List.Folds.{concat-append}
use Rattle.std.specs.List.{AllByRecursion, concat}
use Rattle.text_forms.specs.declared.lines.TheConstants.{MOST_LINE_BYTES}
use Rattle.text_forms.specs.Lines.{fronts_of}
use Rattle.text_forms.specs.Names.{is_name}
use Rattle.text_forms.specs.Words.{is_end, line_words}
use Rattle.text_forms.proofs.Written.{IsLineOf, IsLineOf-spaced, IsWord-from_test, IsWord-name, fronts_of-written}
use Rattle.text_forms.proofs.Written.{is_end-more, length-name, spaced}
use Rattle.cut_model.specs.Net.{IsInLimits, IsLink, Net}
use Rattle.cut_model.specs.Terminals.{root_of}
use Rattle.cut_model.specs.declared.network.Link.{Link}
use Rattle.cut_model.proofs.Terminals.{root-lt}
use Rattle.network_text.specs.Sheets.{IsSheet, SheetView, number_of}
use Rattle.network_text.specs.Texts.{at_start, no_draft}
use Rattle.network_text.specs.Writing.{link_text, name_at, router_text, text_lines}
use Rattle.network_text.proofs.RereadingDrafts.{draft_of, draft-sheet}
use Rattle.network_text.proofs.RereadingLines.{link_front, link_front-words, name_at-is_name, router_front}
use Rattle.network_text.proofs.RereadingLines.{router_front-words, sheet_fronts}
use Rattle.network_text.proofs.RereadingNames.{AreNames, Differ, place_of-name_at}
use Rattle.certifier.specs.Blocks.{certificate_layout, root_text}
use Rattle.certifier.specs.Certificates.{Between, Network, Root, Title, verdict_from}
use Rattle.certifier.specs.Trees.{Told}
use Rattle.certifier.proofs.Clean.{NoFeed-from_test}
use Rattle.certifier.proofs.RereadLines.{counts, counts_first, read, read-network, read-on, short_words-are}

-- ---- the lines of the network

-- A line with its line feed.
abbrev pub fed : List ℕ → List ℕ
fed line = line ++ 10 ∷ []

-- What is written of the routers are their lines,
texts-routers : (names : List (List ℕ)) → map router_text names ≡ map fed (map router_front names)
texts-routers [] = refl
texts-routers (name ∷ names) = ap (λ l. router_text name ∷ l) (texts-routers names)

-- of a link its line,
link_text-fed : (names : List (List ℕ)) (link : Link) → link_text names link ≡ fed (link_front names link)
link_text-fed names link = simp append_assoc

-- and so the lines of all links.
texts-links : (names : List (List ℕ)) (links : List Link)
    → map (link_text names) links ≡ map fed (map (link_front names) links)
texts-links names [] = refl
texts-links names (link ∷ links) =
    ap (λ t. t ∷ map (link_text names) links) (link_text-fed names link)
    ∙ ap (λ l. fed (link_front names link) ∷ l) (texts-links names links)

-- and of a network its lines and END.
text_lines-fronts : (sheet : SheetView) → text_lines sheet ≡ map fed (sheet_fronts sheet) ++ codes "END\n" ∷ []
text_lines-fronts sheet =
    let names = sheet.names in
    let routers = map router_front names in
    let links = map (link_front names) sheet.net.links in
    let end = codes "END\n" ∷ [] in
    ap (λ a. a ++ (map (link_text names) sheet.net.links ++ end)) (texts-routers names)
    ∙ ap (λ b. map fed routers ++ (b ++ end)) (texts-links names sheet.net.links)
    ∙ sym (append_assoc (map fed routers) (map fed links) end)
    ∙ ap (λ a. a ++ end) (sym (map-append fed routers links))

-- A line of a network before its END.
record IsPart (line : List ℕ) : Type 0 where
  pub whole : IsLineOf (line_words line) line
  pub no_end : is_end line ≡ false

-- A line of two words or more is one.
part_of : {word second : List ℕ} {words : List (List ℕ)} {line : List ℕ} → IsLineOf (word ∷ second ∷ words) line
    → IsPart line
part_of is = record {
  whole = record { parts = refl; short = is.short; clean = is.clean };
  no_end = is_end-more is;
}

-- The lines of all routers are such ones,
routers-parts : (names : List (List ℕ)) → AreNames names → AllByRecursion IsPart (map router_front names)
routers-parts [] named = tt
routers-parts (name ∷ names) named = (
  part_of (router_front-words name (All-head (λ n. IsTrue (is_name n)) name names named)),
  routers-parts names (All-tail (λ n. IsTrue (is_name n)) name names named),
)

-- those of all links,
links-parts : (names : List (List ℕ)) (links : List Link) → AreNames names → All (IsLink (length names)) links
    → AllByRecursion IsPart (map (link_front names) links)
links-parts names [] named within = tt
links-parts names (link ∷ links) named within = (
  part_of (link_front-words names link named (All-head (IsLink (length names)) link links within)),
  links-parts names links named (All-tail (IsLink (length names)) link links within),
)

-- and such lines behind others.
both-parts : (xs ys : List (List ℕ)) → AllByRecursion IsPart xs → AllByRecursion IsPart ys
    → AllByRecursion IsPart (xs ++ ys)
both-parts [] ys first second = second
both-parts (x ∷ xs) ys first second = (first.0, both-parts xs ys first.1 second)

-- All lines of the network of a sheet are such ones.
sheet-parts : (sheet : SheetView) → IsSheet sheet.names sheet.net → AllByRecursion IsPart (sheet_fronts sheet)
sheet-parts sheet is =
    both-parts (map router_front sheet.names) (map (link_front sheet.names) sheet.net.links)
    (routers-parts sheet.names is.named)
    (links-parts sheet.names sheet.net.links is.named (rw is.numbered is.limits.within))

-- Each of them is short, and has no line feed,
wholes : (lines : List (List ℕ)) → AllByRecursion IsPart lines
    → AllByRecursion (λ line. IsLineOf (line_words line) line) lines
wholes [] parts = tt
wholes (line ∷ lines) parts = (parts.0.whole, wholes lines parts.1)

-- and none is END.
no_ends : (lines : List (List ℕ)) → AllByRecursion IsPart lines → AllByRecursion (λ line. is_end line ≡ false) lines
no_ends [] parts = tt
no_ends (line ∷ lines) parts = (parts.0.no_end, no_ends lines parts.1)

-- They are the lines of their text.
fronts-fed : (ended : Bool) (lines : List (List ℕ)) (more : List ℕ) → AllByRecursion IsPart lines
    → fronts_of ended (concat (map fed lines) ++ more) ≡ lines ++ fronts_of ended more
fronts-fed ended lines more parts =
    fronts_of-written ended line_words (λ line. line) lines more (wholes lines parts)
    ∙ ap (λ ls. ls ++ fronts_of ended more) (map-id lines)

-- ---- the title, END and the root

-- The title of a certificate.
abbrev title : List ℕ
title = codes "cut tree 1"

-- Its line has these words, is short, and has no line feed.
title-is : IsLineOf (codes "cut" ∷ codes "tree" ∷ codes "1" ∷ []) title
title-is = record { parts = refl; short = omega arith; clean = NoFeed-from_test title refl }

-- Behind the title the network begins.
read-title : (ended : Bool) (seen : ℕ) (more : List ℕ)
    → read ended seen Title (title ++ 10 ∷ more) ≡ read ended (seen + 1) (Network no_draft) more
read-title ended seen more =
    read-on ended seen Title (Network no_draft) title more title-is (counts_first (seen + 1) Title title refl refl)

-- The line END is one of that word.
end-is : IsLineOf (codes "END" ∷ []) (codes "END")
end-is = record { parts = refl; short = omega arith; clean = NoFeed-from_test (codes "END") refl }

-- Behind END the root is named.
read-end : (ended : Bool) (seen : ℕ) (sheet : SheetView) (more : List ℕ) → 0 < seen → IsSheet sheet.names sheet.net
    → read ended seen (Network (draft_of sheet.names sheet.net.links)) (codes "END" ++ 10 ∷ more)
    ≡ read ended (seen + 1) (Root sheet) more
read-end ended seen sheet more later is =
    let numbered = is.numbered in
    let some = is.limits.some in
    read-on ended seen (Network (draft_of sheet.names sheet.net.links)) (Root sheet) (codes "END") more end-is
    (counts_first (seen + 1) (Network (draft_of sheet.names sheet.net.links)) (codes "END") refl refl
    ∙ rw (ne_eqb (length sheet.names) 0 (λ none. omega arith), numbered) refl)

-- The name of a router is found again.
pub number_of-name_at : (names : List (List ℕ)) (router : ℕ) → Differ names → router < length names
    → number_of names (name_at names router) ≡ Some router
number_of-name_at names router differ below =
    rw (place_of-name_at names router differ below, lt-ltb router (length names) below) refl

-- The root of a network is one of its routers.
pub root-low : (net : Net) → IsInLimits net → root_of net < net.routers
root-low net limits = root-lt net limits

-- The line that names the root, without its line feed.
abbrev root_line : SheetView → List ℕ
root_line sheet = spaced (codes "root" ∷ name_at sheet.names (root_of sheet.net) ∷ [])

-- What is told behind the root: no edge.
abbrev pub rooted : SheetView → Told
rooted sheet = record { sheet = sheet; root = root_of sheet.net; edges = [] }

-- The line that names the root has these words, is short, and has no line feed.
root_line-words : (sheet : SheetView) → IsSheet sheet.names sheet.net
    → IsLineOf (codes "root" ∷ name_at sheet.names (root_of sheet.net) ∷ []) (root_line sheet)
root_line-words sheet is =
    let name = name_at sheet.names (root_of sheet.net) in
    let named : is_name name ≡ true =
    name_at-is_name sheet.names (root_of sheet.net) is.named (rw is.numbered (root-low sheet.net is.limits)) in
    let small = length-name name named in
    let short : length (codes "root" ++ 32 ∷ name) ≤ MOST_LINE_BYTES = simp length-append (omega arith) in
    IsLineOf-spaced (codes "root" ∷ name ∷ [])
    (IsWord-from_test (codes "root") refl, (IsWord-name name named, tt)) short

-- Behind the root the edges begin.
read-root : (ended : Bool) (seen : ℕ) (sheet : SheetView) (more : List ℕ) → 0 < seen → IsSheet sheet.names sheet.net
    → read ended seen (Root sheet) (root_line sheet ++ 10 ∷ more)
    ≡ read ended (seen + 1) (Between (rooted sheet)) more
read-root ended seen sheet more later is =
    let words = root_line-words sheet is in
    let low : root_of sheet.net < length sheet.names = rw is.numbered (root-low sheet.net is.limits) in
    read-on ended seen (Root sheet) (Between (rooted sheet)) (root_line sheet) more words
    (counts (seen + 1) (Root sheet) words (λ e. absurd (omega arith)) (λ e. omega arith)
    ∙ rw (short_words-are words, number_of-name_at sheet.names (root_of sheet.net) is.distinct low) refl)

-- ---- all of them

-- The text of the lines in front of the edges.
front-text : (sheet : SheetView) (more : List ℕ)
    → concat (certificate_layout sheet).front ++ more
    ≡ title ++ 10 ∷ (concat (map fed (sheet_fronts sheet)) ++ (codes "END" ++ 10 ∷ (root_line sheet ++ 10 ∷ more)))
front-text sheet more =
    let root = root_text sheet.names (root_of sheet.net) in
    let fronts = concat (map fed (sheet_fronts sheet)) in
    let network : concat (text_lines sheet) ≡ fronts ++ codes "END\n" =
    ap concat (text_lines-fronts sheet) ∙ concat-append (map fed (sheet_fronts sheet)) (codes "END\n" ∷ []) in
    let lines : concat (text_lines sheet ++ root ∷ []) ++ more ≡ ((fronts ++ codes "END\n") ++ (root ++ [])) ++ more =
    ap (λ t. t ++ more) (concat-append (text_lines sheet) (root ∷ []) ∙ ap (λ t. t ++ (root ++ [])) network) in
    let flat : ((fronts ++ codes "END\n") ++ (root ++ [])) ++ more
    ≡ fronts ++ (codes "END" ++ 10 ∷ (root_line sheet ++ 10 ∷ more)) = simp append_assoc in
    ap (λ t. title ++ 10 ∷ t) (lines ∙ flat)

-- The lines of the network of a sheet and END are taken.
read-sheet : (ended : Bool) (seen : ℕ) (sheet : SheetView) (more : List ℕ) → 0 < seen
    → IsSheet sheet.names sheet.net
    → read ended seen (Network no_draft) (concat (map fed (sheet_fronts sheet)) ++ (codes "END" ++ 10 ∷ more))
    ≡ read ended (seen + length (sheet_fronts sheet) + 1) (Root sheet) more
read-sheet ended seen sheet more later is =
    let fronts = sheet_fronts sheet in
    let parts = sheet-parts sheet is in
    let drafted = draft_of sheet.names sheet.net.links in
    let behind = codes "END" ++ 10 ∷ more in
    ap (verdict_from ended seen (Network no_draft)) (fronts-fed ended fronts behind parts)
    ∙ read-network ended seen at_start no_draft drafted fronts (fronts_of ended behind) later
    (no_ends fronts parts) refl (draft-sheet sheet is)
    ∙ read-end ended (seen + length fronts) sheet more (omega arith) is

-- All lines in front of the edges are taken.
pub read-front : (ended : Bool) (seen : ℕ) (sheet : SheetView) (more : List ℕ) → IsSheet sheet.names sheet.net
    → (after : ℕ) × (0 < after)
    × (read ended seen Title (concat (certificate_layout sheet).front ++ more)
    ≡ read ended after (Between (rooted sheet)) more)
read-front ended seen sheet more is =
    let behind = root_line sheet ++ 10 ∷ more in
    let network = concat (map fed (sheet_fronts sheet)) ++ (codes "END" ++ 10 ∷ behind) in
    let after = seen + 1 + length (sheet_fronts sheet) + 1 in (
      after + 1,
      omega arith,
      ap (read ended seen Title) (front-text sheet more) ∙ read-title ended seen network
          ∙ read-sheet ended (seen + 1) sheet behind (omega arith) is
          ∙ read-root ended after sheet more (omega arith) is,
    )
