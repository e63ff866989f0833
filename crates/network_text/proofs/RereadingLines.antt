-- The lines of the text of a sheet.
use Rattle.std.proofs.Common.{◌≡◌, ℕ, ◌≤◌, ◌<◌, List, [], ◌∷◌, ◌++◌, true, false, length, map, codes, decimal}
use Rattle.std.proofs.Common.{refl, ap, ◌∙◌, arith, append_assoc, length-append, All, IsTrue}
use Rattle.std.specs.List.{concat, AllByRecursion}
use Rattle.std.proofs.Math.Path.{fun_ext}
use Rattle.std.proofs.lemmas.Fmt.{length-decimal-le}
use Rattle.std.proofs.lemmas.List.{append-nil}
use Rattle.std.proofs.lemmas.List.Elements.{All-weaker, recursion_from_All}
use Rattle.text_forms.specs.Lines.{fronts_of}
use Rattle.text_forms.specs.Names.{is_name}
use Rattle.text_forms.specs.Words.{is_end}
use Rattle.text_forms.proofs.Decimals.{IsWord-decimal}
use Rattle.text_forms.proofs.Written.{IsLineOf, IsLineOf-spaced, IsWord-name, IsWord-from_test, length-name, spaced}
use Rattle.text_forms.proofs.Written.{fronts_of-written, is_end-more}
use Rattle.cut_model.specs.Net.{IsLink}
use Rattle.cut_model.specs.declared.network.Link.{Link}
use Rattle.text_forms.specs.declared.lines.TheConstants.{MOST_LINE_BYTES}
use Rattle.network_text.specs.Sheets.{SheetView, IsSheet}
use Rattle.network_text.specs.Writing.{name_at, link_text, sheet_text, before_end, has_end}
use Rattle.network_text.proofs.RereadingNames.{AreNames}

-- The words that name a router.
abbrev pub router_words : List ℕ → List (List ℕ)
router_words name = codes "router" ∷ name ∷ []

-- The words of a link.
abbrev pub link_words : List (List ℕ) → Link → List (List ℕ)
link_words names link = codes "link" ∷ name_at names link.a ∷ name_at names link.b ∷ decimal link.cap ∷ []

-- The line that names a router, without its line feed.
abbrev pub router_front : List ℕ → List ℕ
router_front name = spaced (router_words name)

-- The line of a link, without its line feed.
abbrev pub link_front : List (List ℕ) → Link → List ℕ
link_front names link = spaced (link_words names link)

-- What is written of a link is its line.
link_text-front : (names : List (List ℕ)) (link : Link) → link_text names link ≡ link_front names link ++ 10 ∷ []
link_text-front names link = simp append_assoc

-- The line of a router has its words.
pub router_front-words : (name : List ℕ) → is_name name ≡ true → IsLineOf (router_words name) (router_front name)
router_front-words name is =
    let small = length-name name is in
    let short : length (codes "router" ++ 32 ∷ name) ≤ MOST_LINE_BYTES = simp length-append (omega arith) in
    IsLineOf-spaced (router_words name) (IsWord-from_test (codes "router") refl, (IsWord-name name is, tt)) short

-- Each router of a sheet has a name.
pub name_at-is_name : (names : List (List ℕ)) (router : ℕ) → AreNames names → router < length names
    → is_name (name_at names router) ≡ true
name_at-is_name names router named below = named router [] below

-- A link's line is short: two names, and a number of at most 13 digits.
length-link_front : (names : List (List ℕ)) (link : Link) → AreNames names → IsLink (length names) link
    → length (link_front names link) ≤ MOST_LINE_BYTES
length-link_front names link named is =
    let a = name_at names link.a in
    let b = name_at names link.b in
    let cap = decimal link.cap in
    let most = is.cap in
    let a_short = length-name a (name_at-is_name names link.a named is.a) in
    let b_short = length-name b (name_at-is_name names link.b named is.b) in
    let cap_short : length cap ≤ 13 = length-decimal-le 13 link.cap (omega arith) (omega arith) (omega arith) in
    let all : length (codes "link" ++ 32 ∷ (a ++ 32 ∷ (b ++ 32 ∷ cap))) ≤ MOST_LINE_BYTES =
    simp length-append (omega arith) in all

-- The line of a link has its words.
pub link_front-words : (names : List (List ℕ)) (link : Link) → AreNames names → IsLink (length names) link
    → IsLineOf (link_words names link) (link_front names link)
link_front-words names link named is =
    let most = is.cap in
    let a = IsWord-name (name_at names link.a) (name_at-is_name names link.a named is.a) in
    let b = IsWord-name (name_at names link.b) (name_at-is_name names link.b named is.b) in
    let cap = IsWord-decimal link.cap (omega arith) in
    IsLineOf-spaced (link_words names link) (IsWord-from_test (codes "link") refl, (a, (b, (cap, tt))))
    (length-link_front names link named is)

-- The lines of the routers have their words.
routers-words : (names : List (List ℕ)) → AreNames names
    → AllByRecursion (λ name. IsLineOf (router_words name) (router_front name)) names
routers-words names named =
    let P : List ℕ → Type 0 = λ name. IsLineOf (router_words name) (router_front name) in
    recursion_from_All P names (All-weaker (λ name. IsTrue (is_name name)) P router_front-words names named)

-- The lines of the links have their words.
links-words : (names : List (List ℕ)) (links : List Link) → AreNames names → All (IsLink (length names)) links
    → AllByRecursion (λ link. IsLineOf (link_words names link) (link_front names link)) links
links-words names links named within =
    let P : Link → Type 0 = λ link. IsLineOf (link_words names link) (link_front names link) in
    let each : (link : Link) → IsLink (length names) link → P link = λ link is. link_front-words names link named is in
    recursion_from_All P links (All-weaker (IsLink (length names)) P each links within)

-- The lines of the text of a sheet.
fronts_of-sheet_text : (sheet : SheetView) → IsSheet sheet.names sheet.net
    → fronts_of true (sheet_text sheet)
    ≡ map router_front sheet.names ++ (map (link_front sheet.names) sheet.net.links ++ codes "END" ∷ [])
unfolding sheet_text
fronts_of-sheet_text sheet is =
    let names = sheet.names in
    let links = sheet.net.links in
    let end = codes "END\n" in
    let within : All (IsLink (length names)) links = rw is.numbered is.limits.within in
    let text : concat (map (link_text names) links) ≡ concat (map (λ link. link_front names link ++ 10 ∷ []) links) =
    ap (λ f. concat (map f links)) (fun_ext (link_text-front names)) in
    let more = concat (map (link_text names) links) ++ end in
    fronts_of-written true router_words router_front names more (routers-words names is.named)
    ∙ ap (λ t. map router_front names ++ fronts_of true (t ++ end)) text
    ∙ ap (λ ls. map router_front names ++ ls)
    (fronts_of-written true (link_words names) (link_front names) links end (links-words names links is.named within))

-- Lines of which none is END stand before the END behind them.
before_end-lines : {X : Type 0} (words : X → List (List ℕ)) (line : X → List ℕ)
    → ((x : X) → IsLineOf (words x) (line x) → is_end (line x) ≡ false) → (xs : List X) (more : List (List ℕ))
    → AllByRecursion (λ x. IsLineOf (words x) (line x)) xs
    → before_end (map line xs ++ more) ≡ map line xs ++ before_end more
before_end-lines words line no_end [] more are = refl
before_end-lines words line no_end (x ∷ xs) more are =
    rw (no_end x are.0) (ap (λ ls. line x ∷ ls) (before_end-lines words line no_end xs more are.1))

-- Behind such lines what follows tells whether there is an END.
has_end-lines : {X : Type 0} (words : X → List (List ℕ)) (line : X → List ℕ)
    → ((x : X) → IsLineOf (words x) (line x) → is_end (line x) ≡ false) → (xs : List X) (more : List (List ℕ))
    → AllByRecursion (λ x. IsLineOf (words x) (line x)) xs → has_end (map line xs ++ more) ≡ has_end more
has_end-lines words line no_end [] more are = refl
has_end-lines words line no_end (x ∷ xs) more are =
    rw (no_end x are.0) (has_end-lines words line no_end xs more are.1)

-- The lines before END.
abbrev pub sheet_fronts : SheetView → List (List ℕ)
sheet_fronts sheet = map router_front sheet.names ++ map (link_front sheet.names) sheet.net.links

-- They stand before the END of the text of a sheet.
pub before_end-sheet_text : (sheet : SheetView) → IsSheet sheet.names sheet.net
    → before_end (fronts_of true (sheet_text sheet)) ≡ sheet_fronts sheet
before_end-sheet_text sheet is =
    let names = sheet.names in
    let links = sheet.net.links in
    let end = codes "END" ∷ [] in
    let named = routers-words names is.named in
    let linked = links-words names links is.named (rw is.numbered is.limits.within) in
    let link_lines = map (link_front names) links in
    ap before_end (fronts_of-sheet_text sheet is)
    ∙ before_end-lines router_words router_front (λ _ line. is_end-more line) names (link_lines ++ end) named
    ∙ ap (λ ls. map router_front names ++ ls)
    (before_end-lines (link_words names) (link_front names) (λ _ line. is_end-more line) links end linked
    ∙ append-nil link_lines)

-- The text of a sheet has an END.
pub has_end-sheet_text : (sheet : SheetView) → IsSheet sheet.names sheet.net
    → has_end (fronts_of true (sheet_text sheet)) ≡ true
has_end-sheet_text sheet is =
    let names = sheet.names in
    let links = sheet.net.links in
    let end = codes "END" ∷ [] in
    let named = routers-words names is.named in
    let linked = links-words names links is.named (rw is.numbered is.limits.within) in
    let link_lines = map (link_front names) links in
    ap has_end (fronts_of-sheet_text sheet is)
    ∙ has_end-lines router_words router_front (λ _ line. is_end-more line) names (link_lines ++ end) named
    ∙ has_end-lines (link_words names) (link_front names) (λ _ line. is_end-more line) links end linked
