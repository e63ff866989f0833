-- A request has one report.
use Rattle.std.proofs.Common.{◌≡◌, ℕ, List, Bool, false, ap, arith, refl, sym, ◌∙◌}
use Rattle.std.proofs.lemmas.List.{ext_get_or}
use Rattle.cut_model.specs.Net.{Net}
use Rattle.cut_model.specs.Cuts.{RouterSet}
use Rattle.cut_model.specs.Terminals.{root_of}
use Rattle.network_text.specs.Sheets.{SheetView}
use Rattle.tree_state.specs.Views.{TreeView, up_of, width_of}
use Rattle.tree_state.specs.Paths.{IsLeastEdge, IsWeakest, side_for}
use Rattle.tree_state.specs.Shown.{ShowsSet}
use Rattle.tree_state.specs.Tables.{Table, below}
use Rattle.query_lang.specs.Reports.{IsCutReport, IsPathReport, IsReport, IsWeakestReport}
use Rattle.query_lang.specs.Trees.{path_text}
use Rattle.query_lang.specs.declared.request.Request.{Request}
use Rattle.query_lang.specs.declared.request.Request.TheVariants.{Cut, Path, Tree, Run, Net as NetAsked, Weakest}
use Rattle.path_minimum.proofs.OnePath.{path-only}

-- Two terminals have one least edge.
pub least_edge_once : (net : Net) (up width : Table) (a b c e : ℕ) → IsLeastEdge net up width a b c
    → IsLeastEdge net up width a b e → c ≡ e
least_edge_once net up width a b c e p q =
    let low = p.least e q.on_path in
    let high = q.least c p.on_path in
    omega (arith, p.first e q.on_path (omega arith), q.first c p.on_path (omega arith))

-- A tree has one weakest edge.
weakest_once : (net : Net) (root : ℕ) (width : Table) (c e : ℕ) → IsWeakest net root width c
    → IsWeakest net root width e → c ≡ e
weakest_once net root width c e p q =
    let low = p.least e q.terminal q.not_root in
    let high = q.least c p.terminal p.not_root in
    omega (arith, p.first e q.terminal q.not_root (omega arith), q.first c p.terminal p.not_root (omega arith))

-- One list of truth values shows a set.
shown_once : (n : ℕ) (X : RouterSet) (side other : List Bool) → ShowsSet n X side → ShowsSet n X other → side ≡ other
shown_once n X side other p q =
    ext_get_or false side other (p.size ∙ sym q.size)
    (λ r within. p.shows r (omega (arith, p.size)) ∙ sym (q.shows r (omega (arith, p.size))))

-- One text is the reply to CUT,
cut_once : (version : ℕ) (sheet : SheetView) (tree : TreeView) (a b : ℕ) (text other : List ℕ)
    → IsCutReport version sheet tree a b text → IsCutReport version sheet tree a b other → text ≡ other
cut_once version sheet tree a b text other p q =
    let child : q.child ≡ p.child =
    least_edge_once tree.net (up_of tree) (width_of tree) a b q.child p.child q.least_edge p.least_edge in
    let cut_off = side_for tree.net.routers (up_of tree) a p.child in
    let side : q.side ≡ p.side = shown_once tree.net.routers cut_off q.side p.side (rw child at q.side_is) p.side_is in
    p.text_is ∙ sym (q.text_is ∙ rw (child, side) refl)

-- one that to PATH,
path_report_once : (version : ℕ) (sheet : SheetView) (tree : TreeView) (a b : ℕ) (text other : List ℕ)
    → IsPathReport version sheet tree a b text → IsPathReport version sheet tree a b other → text ≡ other
path_report_once version sheet tree a b text other p q =
    p.text_is
    ∙ ap (path_text version sheet tree) (path-only tree.net (up_of tree) a b p.children q.children p.path q.path)
    ∙ sym q.text_is

-- and one that to WEAKEST.
weakest_report_once : (version : ℕ) (sheet : SheetView) (tree : TreeView) (text other : List ℕ)
    → IsWeakestReport version sheet tree text → IsWeakestReport version sheet tree other → text ≡ other
weakest_report_once version sheet tree text other p q =
    let child : q.child ≡ p.child =
    weakest_once tree.net (root_of tree.net) (width_of tree) q.child p.child q.weakest p.weakest in
    let cut_off = below tree.net.routers (up_of tree) p.child in
    let side : q.side ≡ p.side = shown_once tree.net.routers cut_off q.side p.side (rw child at q.side_is) p.side_is in
    p.text_is ∙ sym (q.text_is ∙ rw (child, side) refl)

-- So each request has one report.
pub report_once : (version : ℕ) (sheet : SheetView) (tree : TreeView) (request : Request) (text other : List ℕ)
    → IsReport version sheet tree request text → IsReport version sheet tree request other → text ≡ other
report_once version sheet tree (Cut a b) text other p q = cut_once version sheet tree a b text other p q
report_once version sheet tree (Path a b) text other p q = path_report_once version sheet tree a b text other p q
report_once version sheet tree Tree text other p q = p ∙ sym q
report_once version sheet tree Run text other p q = p ∙ sym q
report_once version sheet tree NetAsked text other p q = p ∙ sym q
report_once version sheet tree Weakest text other p q = weakest_report_once version sheet tree text other p q
report_once version sheet tree request text other p q = absurd p
