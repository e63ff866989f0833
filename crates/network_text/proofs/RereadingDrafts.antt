-- What the lines of the text of a sheet name, one after another.
use Rattle.std.proofs.Common.{◌≡◌, ◌≢◌, ℕ, ◌≤◌, ◌<◌, List, [], ◌∷◌, ◌++◌, true, length, map, fold, refl, ap, ◌∙◌}
use Rattle.std.proofs.Common.{arith, append_assoc, length-append, All, IsTrue, Ok}
use Rattle.std.proofs.lemmas.Bool.{le-ltb, lt-leb}
use Rattle.std.proofs.lemmas.List.{append-nil}
use Rattle.std.proofs.lemmas.List.Elements.{All-head, All-tail}
use Rattle.std.proofs.lemmas.List.Sums.{fold-append}
use Rattle.text_forms.specs.Names.{is_name}
use Rattle.text_forms.proofs.Decimals.{number_in-decimal}
use Rattle.text_forms.proofs.Written.{IsLineOf, is_long-short, is_passed-word}
use Rattle.cut_model.specs.Net.{IsLink}
use Rattle.cut_model.specs.declared.network.Link.{Link}
use Rattle.cut_model.specs.declared.network.TheConstants.{MOST_CAPACITY, MOST_LINKS, MOST_ROUTERS}
use Rattle.network_text.specs.Sheets.{SheetView, IsSheet}
use Rattle.network_text.specs.Texts.{Draft, Progress, after_line, at_start, progress_of}
use Rattle.network_text.specs.Texts.{with_line, with_link_among, with_words}
use Rattle.network_text.proofs.RereadingLines.{router_words, router_front, router_front-words}
use Rattle.network_text.proofs.RereadingLines.{link_words, link_front, link_front-words, name_at-is_name, sheet_fronts}
use Rattle.network_text.proofs.RereadingNames.{AreNames, Differ, with_name-new, with_ends-known, place_of-name_at}

-- The draft of these names and links.
abbrev pub draft_of : List (List ℕ) → List Link → Draft
draft_of names links = record { names = names; links = links }

-- A line that is no remark adds what its words say.
with_line-words : {b : ℕ} {word : List ℕ} {words : List (List ℕ)} {line : List ℕ} (draft : Draft)
    → IsLineOf ((b ∷ word) ∷ words) line → b ≢ 35 → with_line draft line ≡ with_words draft ((b ∷ word) ∷ words)
with_line-words draft is other = rw (is_passed-word is other, is_long-short is, is.parts) refl

-- The words of a router whose name is new add the name.
with_words-router : (names : List (List ℕ)) (name : List ℕ) (rest : List (List ℕ)) (links : List Link)
    → Differ (names ++ name ∷ rest) → is_name name ≡ true → length (names ++ name ∷ []) ≤ MOST_ROUTERS
    → with_words (draft_of names links) (router_words name) ≡ Ok (draft_of (names ++ name ∷ []) links)
with_words-router names name rest links differ is few =
    rw (is, with_name-new names name rest differ, le-ltb MOST_ROUTERS (length (names ++ name ∷ [])) few) refl

-- A link that keeps the limits is added.
with_link_among-fits : (names : List (List ℕ)) (links : List Link) (link : Link) → link.cap ≤ MOST_CAPACITY
    → length names ≤ MOST_ROUTERS → length links < MOST_LINKS
    → with_link_among names links link ≡ Ok (draft_of names (links ++ link ∷ []))
with_link_among-fits names links link cap routers few =
    let cap_fits = le-ltb MOST_CAPACITY link.cap cap in
    let routers_fit = le-ltb MOST_ROUTERS (length names) routers in
    rw (cap_fits, routers_fit, lt-leb MOST_LINKS (length links) few) refl

-- The words of a link add the link.
with_words-link : (names : List (List ℕ)) (links : List Link) (link : Link) → Differ names → AreNames names
    → IsLink (length names) link → length names ≤ MOST_ROUTERS → length links < MOST_LINKS
    → with_words (draft_of names links) (link_words names link) ≡ Ok (draft_of names (links ++ link ∷ []))
with_words-link names links link differ named is routers few =
    let most = is.cap in
    rw (
      name_at-is_name names link.a named is.a,
      name_at-is_name names link.b named is.b,
      number_in-decimal link.cap (omega arith),
      with_ends-known names link.a link.b is.a is.b,
      place_of-name_at names link.a differ is.a,
      place_of-name_at names link.b differ is.b,
    ) (with_link_among-fits names links link is.cap routers few)

-- A line that isn't faulty makes of a draft what it says.
after_line-draft : (progress : Progress) (old new : Draft) (line : List ℕ) → progress.draft ≡ Ok old
    → with_line old line ≡ Ok new → (after_line progress line).draft ≡ Ok new
after_line-draft progress old new line before adds = rw (before, adds) refl

-- The lines of routers add their names.
draft-routers : (progress : Progress) (done names : List (List ℕ)) → progress.draft ≡ Ok (draft_of done [])
    → Differ (done ++ names) → AreNames names → length (done ++ names) ≤ MOST_ROUTERS
    → (fold after_line progress (map router_front names)).draft ≡ Ok (draft_of (done ++ names) [])
draft-routers progress done [] before differ named few = rw append-nil before
draft-routers progress done (name ∷ names) before differ named few =
    let one = done ++ name ∷ [] in
    let all : one ++ names ≡ done ++ name ∷ names = append_assoc done (name ∷ []) names in
    let size : length one ≤ MOST_ROUTERS =
    omega (arith, few, length-append done (name ∷ names), length-append done (name ∷ [])) in
    let is = All-head (λ n. IsTrue (is_name n)) name names named in
    let others = All-tail (λ n. IsTrue (is_name n)) name names named in
    let front = router_front name in
    let words = router_front-words name is in
    let says = with_line-words (draft_of done []) words (λ e. absurd (omega arith)) in
    let adds = says ∙ with_words-router done name names [] differ is size in
    let after = after_line-draft progress (draft_of done []) (draft_of one []) front before adds in
    let rest = draft-routers (after_line progress front) one names after (rw all differ) others (rw all few) in
    rw all at rest

-- The lines of links among the names of routers add the links.
draft-links : (progress : Progress) (names : List (List ℕ)) (done links : List Link)
    → progress.draft ≡ Ok (draft_of names done) → Differ names → AreNames names → length names ≤ MOST_ROUTERS
    → All (IsLink (length names)) links → length (done ++ links) ≤ MOST_LINKS
    → (fold after_line progress (map (link_front names) links)).draft ≡ Ok (draft_of names (done ++ links))
draft-links progress names done [] before differ named routers within few = rw append-nil before
draft-links progress names done (link ∷ links) before differ named routers within few =
    let one = done ++ link ∷ [] in
    let all : one ++ links ≡ done ++ link ∷ links = append_assoc done (link ∷ []) links in
    let room : length done < MOST_LINKS = omega (arith, few, length-append done (link ∷ links)) in
    let is = All-head (IsLink (length names)) link links within in
    let others = All-tail (IsLink (length names)) link links within in
    let front = link_front names link in
    let words = link_front-words names link named is in
    let says = with_line-words (draft_of names done) words (λ e. absurd (omega arith)) in
    let adds = says ∙ with_words-link names done link differ named is routers room in
    let after = after_line-draft progress (draft_of names done) (draft_of names one) front before adds in
    let next = after_line progress front in
    let rest = draft-links next names one links after differ named routers others (rw all few) in rw all at rest

-- The lines of a sheet name its routers and links.
pub draft-sheet : (sheet : SheetView) → IsSheet sheet.names sheet.net
    → (progress_of (sheet_fronts sheet)).draft ≡ Ok (draft_of sheet.names sheet.net.links)
draft-sheet sheet is =
    let names = sheet.names in
    let links = sheet.net.links in
    let routers = map router_front names in
    let numbered = is.numbered in
    let few : length names ≤ MOST_ROUTERS = let most = is.limits.few_routers in omega arith in
    let within : All (IsLink (length names)) links = rw numbered is.limits.within in
    let named = draft-routers at_start [] names refl is.distinct is.named few in
    let then = fold after_line at_start routers in
    let linked = draft-links then names [] links named is.distinct is.named few within is.limits.few_links in
    ap (λ (p : Progress). p.draft) (fold-append after_line at_start routers (map (link_front names) links)) ∙ linked
