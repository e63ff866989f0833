-- Where all edges of a cut tree were told, the last line is taken, and the tree is accepted.
use Rattle.std.proofs.Common.{◌≡◌, ◌≢◌, ℕ, zero, suc, ◌+◌, ◌-◌, ◌<◌}
use Rattle.std.proofs.Common.{List, [], ◌∷◌, ◌++◌, Bool, true, length}
use Rattle.std.proofs.Common.{codes, refl, sym, ap, ◌∙◌, arith, length-append, inl, inr, get_or, ◌||◌}
use Rattle.std.proofs.Math.Seq.{get_or-append_seam}
use Rattle.std.proofs.lemmas.Bool.{cases_eq, cases_lt, eq-eqb, le-ltb, lt-ltb, ne_eqb}
use Rattle.std.proofs.lemmas.List.{get_or_append_left}
use Rattle.std.proofs.lemmas.List.FromFn.{get_or-range_with_len, length-range_with_len}
use Rattle.std.proofs.lemmas.List.Sums.{list_all-from_AllPass}
use Rattle.std.specs.List.{AllByRecursion, range_with_len}
use Rattle.std.specs.Prelude.{◌==◌}
use Rattle.cut_model.specs.Cuts.{RouterSet, cut_value}
use Rattle.cut_model.specs.Terminals.{root_of}
use Rattle.cut_model.proofs.Costs.{cut_value-same}
use Rattle.cut_model.proofs.Terminals.{root-lt, terminal-lt}
use Rattle.text_forms.proofs.Written.{IsLineOf}
use Rattle.network_text.specs.Sheets.{SheetView}
use Rattle.tree_state.specs.Tables.{Table, below, some_up}
use Rattle.tree_state.proofs.Climbing.{IsHung, meets_root_from, root_hangs}
use Rattle.tree_state.proofs.Forest.{some_up-suc, some_up-zero}
use Rattle.tree_state.proofs.Trees.{hung_of}
use Rattle.certifier.specs.Accepting.{AcceptsTree}
use Rattle.certifier.specs.Blocks.{router_but}
use Rattle.certifier.specs.Certificates.{Accepted, Between, Ends, costs_verdict, take_line, tree_verdict, verdict_by}
use Rattle.certifier.specs.Trees.{Edge, Told, all_end_at_root, up_by, up_in, width_by, width_in}
use Rattle.certifier.proofs.Clean.{NoFeed-from_test}
use Rattle.certifier.proofs.RereadEdges.{IsChild, Shows, child_is, router_but-low, router_but-other, told_by}
use Rattle.certifier.proofs.RereadLines.{counts, read, read-line}

-- ---- the edges that were told

-- The edge is one of these tables.
pub record IsEdge (up width : Table) (edge : Edge) : Type 0 where
  pub up_is : edge.up ≡ up edge.child
  pub width_is : edge.width ≡ width edge.child

-- Edges of these tables above the routers but the root, in number order.
pub record AreEdges (root : ℕ) (up width : Table) (edges : List Edge) : Type 0 where
  pub are : AllByRecursion (IsEdge up width) edges
  pub children : (i : ℕ) (d : Edge) → i < length edges → (get_or edges i d).child ≡ router_but root i

-- No edges are that,
pub edges_none : {root : ℕ} {up width : Table} → AreEdges root up width []
edges_none = record { are = tt; children = λ i d within. absurd (omega arith) }

-- and one more behind such edges is, too.
one_more : {up width : Table} (edges : List Edge) (edge : Edge) → AllByRecursion (IsEdge up width) edges
    → IsEdge up width edge → AllByRecursion (IsEdge up width) (edges ++ edge ∷ [])
one_more [] edge are is = (is, tt)
one_more (first ∷ edges) edge are is = (are.0, one_more edges edge are.1 is)

-- and with the next one they are again.
pub edges_more : {root : ℕ} {up width : Table} {edges : List Edge} (edge : Edge) → AreEdges root up width edges
    → IsEdge up width edge → edge.child ≡ router_but root (length edges)
    → AreEdges root up width (edges ++ edge ∷ [])
edges_more {root = root} {edges = edges} edge before is next = record {
  are = one_more edges edge before.are is;
  children = λ i d within. elim (cases_lt i (length edges)) [
    | inl low ↦ ap (λ (e : Edge). e.child) (get_or_append_left edges (edge ∷ []) d i low) ∙ before.children i d low
    | inr high ↦ (
        let last : i ≡ length edges = omega (arith, length-append edges (edge ∷ [])) in
        rw last (ap (λ (e : Edge). e.child) (get_or-append_seam edges edge [] d) ∙ next))
  ];
}

-- What is looked up of a router is that of its edge.
looked_up : (up width : Table) (root : ℕ) (edges : List Edge) → AllByRecursion (IsEdge up width) edges → (r i : ℕ)
    → (d : Edge) → i < length edges → (get_or edges i d).child ≡ r
    → (up_by root edges r ≡ up r) × (width_by edges r ≡ width r)
looked_up up width root [] are r i d within is = absurd (omega arith)
looked_up up width root (edge ∷ edges) are r zero d within is =
    rw (eq-eqb edge.child r is) (are.0.up_is ∙ ap up is, are.0.width_is ∙ ap width is)
looked_up up width root (edge ∷ edges) are r (suc i) d within is = elim (cases_eq edge.child r) [
  | inl here ↦ rw (eq-eqb edge.child r here) (are.0.up_is ∙ ap up here, are.0.width_is ∙ ap width here)
  | inr behind ↦ rw (ne_eqb edge.child r behind) (looked_up up width root edges are.1 r i d (omega arith) is)
]

-- A router without an edge hangs from the root.
not_looked_up : (root : ℕ) (edges : List Edge) (r : ℕ)
    → ((i : ℕ) (d : Edge) → i < length edges → (get_or edges i d).child ≢ r) → up_by root edges r ≡ root
not_looked_up root [] r none = refl
not_looked_up root (edge ∷ edges) r none =
    rw (ne_eqb edge.child r (none 0 edge (omega arith)))
    (not_looked_up root edges r (λ i d within. none (suc i) d (omega arith)))

-- At which place a router other than the root stands.
place_but : (root r n : ℕ) → root < n → r < n → r ≢ root → (i : ℕ) × (i + 1 < n) × (router_but root i ≡ r)
place_but root r n some low other = elim (cases_lt r root) [
  | inl before ↦ (r, omega arith, rw (lt-ltb r root before) refl)
  | inr behind ↦ (r - 1, omega arith, rw (le-ltb (r - 1) root (omega arith)) (omega arith))
]

-- All edges of a cut tree were told.
pub record HasAll (sheet : SheetView) (up width : Table) (edges : List Edge) : Type 0 where
  pub shows : Shows sheet up width
  pub are : AreEdges (root_of sheet.net) up width edges
  pub all : length edges + 1 ≡ sheet.net.routers

module _ {sheet : SheetView} {up width : Table} {edges : List Edge} (has : HasAll sheet up width edges) where
  abbrev root : ℕ
  root = root_of sheet.net

  abbrev told : Told
  told = told_by sheet edges

  some : root < sheet.net.routers
  some = root-lt sheet.net has.shows.is.limits

  hung : IsHung sheet.net root up
  hung = hung_of sheet.net root up width has.shows.tree

  -- what is looked up of a router but the root
  found : (r : ℕ) → r < sheet.net.routers → r ≢ root → (up_in told r ≡ up r) × (width_in told r ≡ width r)
  found r low other =
      let place = place_but root r sheet.net.routers some low other in
      let all = has.all in
      let nothing : Edge = record { line = 0; child = 0; up = 0; width = 0; flow = [] } in
      let within : place.0 < length edges = omega (arith, place.1) in
      looked_up up width root edges has.are.are r place.0 nothing within
      (has.are.children place.0 nothing within ∙ place.2)

  -- the told tree is above each router what the tree is
  ups_agree : (r : ℕ) → r < sheet.net.routers → up_in told r ≡ up r
  ups_agree r low = elim (cases_eq r root) [
    | inl top ↦ rw top (not_looked_up root edges root
        (λ i d within same. router_but-other root i (sym (has.are.children i d within) ∙ same))
        ∙ sym (root_hangs sheet.net root up hung))
    | inr other ↦ (found r low other).0
  ]

  -- its ways up are the same,
  ways_agree : (P : RouterSet) (n r : ℕ) → r < sheet.net.routers → some_up P (up_in told) n r ≡ some_up P up n r
  ways_agree P zero r low = some_up-zero P (up_in told) r ∙ sym (some_up-zero P up r)
  ways_agree P (suc n) r low =
      let above = ups_agree r low in
      let next : up r < sheet.net.routers = terminal-lt sheet.net (up r) (has.shows.tree.up_is r low) in
      some_up-suc P (up_in told) n r
      ∙ ap (λ x. P r || some_up P (up_in told) n x) above
      ∙ ap (λ b. P r || b) (ways_agree P n (up r) next) ∙ sym (some_up-suc P up n r)

  -- so all of them end at the root,
  ends_agree : all_end_at_root told ≡ true
  ends_agree =
      let n = sheet.net.routers in
      list_all-from_AllPass (below n (up_in told) root) (range_with_len 0 n) (λ k d within.
      let low : k < n = omega (arith, length-range_with_len 0 n) in
      let same : 0 + k ≡ k = omega arith in
      ap (below n (up_in told) root) (get_or-range_with_len 0 n k d low ∙ same)
      ∙ ways_agree (λ j. j == root) n k low
      ∙ meets_root_from sheet.net root up hung k low (has.shows.tree.up_is k low))

  -- what is below an edge costs as much as it is wide,
  cost_agrees : (c : ℕ) → IsChild sheet up width c
      → cut_value sheet.net (below sheet.net.routers (up_in told) c) ≡ width c
  cost_agrees c child =
      cut_value-same sheet.net has.shows.is.limits (below sheet.net.routers (up_in told) c)
      (below sheet.net.routers up c) (λ r low. ways_agree (λ j. j == c) sheet.net.routers r low)
      ∙ child.cut.value

  -- for some of the edges,
  costs_pass : (some_edges : List Edge) → AllByRecursion (IsEdge up width) some_edges
      → AllByRecursion (λ edge. IsChild sheet up width edge.child) some_edges
      → costs_verdict told some_edges ≡ Accepted told
  costs_pass [] are children = refl
  costs_pass (edge ∷ some_edges) are children =
      let cost = cost_agrees edge.child children.0 ∙ sym are.0.width_is in
      rw (eq-eqb (cut_value sheet.net (below sheet.net.routers (up_in told) edge.child)) edge.width cost)
      (costs_pass some_edges are.1 children.1)

  -- and for all of them.
  are_children : (some_edges : List Edge) → ((i : ℕ) (d : Edge) → i < length some_edges
      → ((get_or some_edges i d).child < sheet.net.routers) × ((get_or some_edges i d).child ≢ root))
      → AllByRecursion (λ edge. IsChild sheet up width edge.child) some_edges
  are_children [] each = tt
  are_children (edge ∷ some_edges) each =
      let first = each 0 edge (omega arith) in (
        child_is has.shows edge.child first.0 first.1,
        are_children some_edges (λ i d within. each (suc i) d (omega arith)),
      )

  pub tree_accepted : (number : ℕ) → tree_verdict number told ≡ Accepted told
  tree_accepted number =
      rw ends_agree (costs_pass edges has.are.are (are_children edges (λ i d within.
      let at = has.are.children i d within in
      let all = has.all in (
        rw at (low_but i within),
        (λ same. router_but-other root i (sym at ∙ same)),
      ))))
    where
      low_but : (i : ℕ) → i < length edges → router_but root i < sheet.net.routers
      low_but i within =
          let all = has.all in
          router_but-low root i sheet.net.routers some (omega arith)

  done-is : IsLineOf (codes "DONE" ∷ []) (codes "DONE")
  done-is = record { parts = refl; short = omega arith; clean = NoFeed-from_test (codes "DONE") refl }

  -- The last line is taken, and the tree is accepted.
  pub read-done : (ended : Bool) (seen : ℕ) (more : List ℕ) → 0 < seen
      → AcceptsTree sheet up width (read ended seen (Between told) (codes "DONE\n" ++ more))
  read-done ended seen more later = record {
    told = told;
    is = read-line ended seen (Between told) (codes "DONE") more done-is
        ∙ ap (λ t. verdict_by t (seen + 1) (λ next. read ended (seen + 1) next more)) taken
        ∙ tree_accepted (seen + 1);
    sheet_is = refl;
    root_is = refl;
    ups = ups_agree;
    widths = λ r low other. (found r low other).1;
  }
    where
      taken : take_line (seen + 1) (Between told) (codes "DONE") ≡ Ends told
      taken =
          let all = has.all in
          counts (seen + 1) (Between told) done-is (λ e. absurd (omega arith)) (λ e. omega arith)
          ∙ rw (le-ltb (length edges + 1) sheet.net.routers (omega arith)) refl
