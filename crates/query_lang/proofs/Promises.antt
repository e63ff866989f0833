-- What the replies to CUT, PATH and WEAKEST from one record have to do with each other.
use Rattle.std.proofs.Common.{◌≡◌, ◌≢◌, inl, inr, ℕ, ◌<◌, List, Bool, true, false, map, not}
use Rattle.std.proofs.Common.{ap, arith, refl, sym, subst, ◌∙◌, if◌then◌else◌}
use Rattle.std.specs.Prelude.{◌↔◌, Contains, reverse}
use Rattle.std.proofs.lemmas.Bool.{cases_Bool, false≢true}
use Rattle.std.proofs.lemmas.List.{ext_get_or, get_or-map, length-map, reverse-append, reverse-reverse}
use Rattle.std.proofs.lemmas.List.Elements.{Contains-append_cases, Contains-append_left, Contains-append_right}
use Rattle.cut_model.specs.Net.{Net}
use Rattle.cut_model.specs.Cuts.{RouterSet, cut_value, differ, set_of}
use Rattle.cut_model.specs.Terminals.{IsTerminal, root_of}
use Rattle.cut_model.proofs.Crossing.{cut_value-outside}
use Rattle.network_text.specs.Sheets.{SheetView}
use Rattle.path_minimum.specs.Paths.{IsOnPathAbove, IsOrderedPath}
use Rattle.path_minimum.proofs.OnePath.{path-only}
use Rattle.path_minimum.proofs.Orders.{contains-turned, contains-turned_back}
use Rattle.tree_state.specs.Views.{HoldsCutTree, TreeView, up_of, width_of}
use Rattle.tree_state.specs.Paths.{IsLeastEdge, IsOnPath, side_for}
use Rattle.tree_state.specs.Tables.{Table, below}
use Rattle.tree_state.proofs.Paths.{differ_comm}
use Rattle.tree_state.proofs.Trees.{tree_of}
use Rattle.query_lang.specs.Laws.{PartsBy, TellLeastOfPath, TellOneCut, TellOneWay, TellPartingEdges, TellsNoMore}
use Rattle.query_lang.specs.Reports.{IsCutReport, IsPathReport, IsWeakestReport}
use Rattle.query_lang.specs.Trees.{path_text}
use Rattle.query_lang.proofs.OneReport.{least_edge_once}

-- ---- the path of two routers, turned

-- what is on the path of b and a is on that of a and b
on_path-turned : (net : Net) (up : Table) (a b c : ℕ) → IsOnPath net up b a c → IsOnPath net up a b c
on_path-turned net up a b c on_path = record {
  terminal = on_path.terminal;
  parting = differ_comm (below net.routers up c a) (below net.routers up c b) ∙ on_path.parting;
}

-- and so it is beside the named end
on_path_above-turned : (net : Net) (up : Table) (a b end c : ℕ) → IsOnPathAbove net up b a end c
    → IsOnPathAbove net up a b end c
on_path_above-turned net up a b end c above =
    record { on_path = on_path-turned net up a b c above.on_path; holds = above.holds }

-- so one edge is the least of both
least_edge-turned : (net : Net) (up width : Table) (a b c : ℕ) → IsLeastEdge net up width b a c
    → IsLeastEdge net up width a b c
least_edge-turned net up width a b c edge = record {
  on_path = on_path-turned net up a b c edge.on_path;
  least = λ e on_path. edge.least e (on_path-turned net up b a e on_path);
  first = λ e on_path. edge.first e (on_path-turned net up b a e on_path);
}

-- a list turned round has the same numbers
numbers-turned : (P Q : ℕ → Type 0) (xs : List ℕ) → ((c : ℕ) → Contains xs c ↔ P c) → ((c : ℕ) → P c → Q c)
    → ((c : ℕ) → Q c → P c) → (c : ℕ) → Contains (reverse xs) c ↔ Q c
numbers-turned P Q xs are to from c = (
  λ found. to c ((are c).0 (contains-turned_back xs c found)),
  λ has. contains-turned xs c ((are c).1 (from c has)),
)

-- and the path from a to b, turned round, is the path from b to a
path-turned : (net : Net) (up : Table) (a b : ℕ) (children : List ℕ) → IsOrderedPath net up a b children
    → IsOrderedPath net up b a (reverse children)
path-turned net up a b children path = record {
  front = reverse path.behind;
  behind = reverse path.front;
  joins = ap reverse path.joins ∙ reverse-append path.front path.behind;
  front_is = numbers-turned (IsOnPathAbove net up a b b) (IsOnPathAbove net up b a b) path.behind path.behind_is
      (λ c. on_path_above-turned net up b a b c) (λ c. on_path_above-turned net up a b b c);
  behind_is = numbers-turned (IsOnPathAbove net up a b a) (IsOnPathAbove net up b a a) path.front path.front_is
      (λ c. on_path_above-turned net up b a a c) (λ c. on_path_above-turned net up a b a c);
  front_grows = path.behind_falls;
  behind_falls = rw (reverse-reverse path.front) path.front_grows;
}

-- PATH and the way back have the same lines in opposite orders.
pub one_way : (version : ℕ) (sheet : SheetView) (tree : TreeView) (a b : ℕ) (text other : List ℕ)
    → IsPathReport version sheet tree a b text → IsPathReport version sheet tree b a other
    → TellOneWay version sheet tree text other
one_way version sheet tree a b text other p q =
    let back : q.children ≡ reverse p.children =
    path-only tree.net (up_of tree) b a q.children (reverse p.children) q.path
    (path-turned tree.net (up_of tree) a b p.children p.path) in record {
      children = p.children;
      told = p.text_is;
      turned = q.text_is ∙ ap (path_text version sheet tree) back;
    }

-- ---- the sides of an edge

-- an edge that parts a from b has b on its other side
side_for-turned : (n : ℕ) (up : Table) (a b c r : ℕ) → differ (below n up c a) (below n up c b) ≡ true
    → side_for n up b c r ≡ not (side_for n up a c r)
side_for-turned n up a b c r parting =
    cases (below n up c a) (below n up c b) (below n up c) parting
  where
    cases : (p q : Bool) (X : RouterSet) → differ p q ≡ true
        → (if q then X else λ r. not (X r)) r ≡ not ((if p then X else λ r. not (X r)) r)
    cases true true X parting = absurd (false≢true parting)
    cases true false X parting = refl
    cases false true X parting = double (X r)
      where
        double : (x : Bool) → x ≡ not (not x)
        double true = refl
        double false = refl
    cases false false X parting = absurd (false≢true parting)

-- CUT and CUT turned tell one cut.
pub one_cut : (version : ℕ) (sheet : SheetView) (tree : TreeView) (a b : ℕ) (text other : List ℕ)
    → IsCutReport version sheet tree a b text → IsCutReport version sheet tree b a other
    → TellOneCut version sheet tree text other
one_cut version sheet tree a b text other p q = record {
  value = width_of tree p.child;
  side = p.side;
  size = p.side_is.size;
  told = p.text_is;
  turned = q.text_is ∙ rw (child, sides) refl;
}
  where
    child : q.child ≡ p.child
    child = least_edge_once tree.net (up_of tree) (width_of tree) a b q.child p.child
        (least_edge-turned tree.net (up_of tree) (width_of tree) a b q.child q.least_edge) p.least_edge

    sides : q.side ≡ map not p.side
    sides = ext_get_or false q.side (map not p.side) (q.side_is.size ∙ sym (length-map p.side not ∙ p.side_is.size))
        (λ r within.
        let low : r < tree.net.routers = omega (arith, within, q.side_is.size) in
        let turned : side_for tree.net.routers (up_of tree) b q.child r
        ≡ not (side_for tree.net.routers (up_of tree) a p.child r) =
        rw child (side_for-turned tree.net.routers (up_of tree) a b p.child r p.least_edge.on_path.parting) in
        q.side_is.shows r low ∙ turned ∙ ap not (sym (p.side_is.shows r low))
        ∙ sym (get_or-map not p.side r false false (omega (arith, low, p.side_is.size))))

-- ---- the edges of a path

-- an edge on the path of two routers is in its list
on_path-contained : (net : Net) (up : Table) (a b c : ℕ) (children : List ℕ) → IsOrderedPath net up a b children
    → IsOnPath net up a b c → Contains children c
on_path-contained net up a b c children path on_path =
    subst (λ (xs : List ℕ). Contains xs c) (sym path.joins) (elim (cases_Bool (below net.routers up c a)) [
      | inl a_below ↦ Contains-append_left path.front path.behind c
          ((path.front_is c).1 record { on_path = on_path; holds = a_below })
      | inr a_above ↦ Contains-append_right path.front path.behind c
          ((path.behind_is c).1 record { on_path = on_path; holds = rw a_above at on_path.parting })
    ])

-- and each edge in its list is on the path
contained-on_path : (net : Net) (up : Table) (a b c : ℕ) (children : List ℕ) → IsOrderedPath net up a b children
    → Contains children c → IsOnPath net up a b c
contained-on_path net up a b c children path found =
    elim (Contains-append_cases path.front path.behind c (subst (λ (xs : List ℕ). Contains xs c) path.joins found)) [
      | inl early ↦ ((path.front_is c).0 early).on_path
      | inr late ↦ ((path.behind_is c).0 late).on_path
    ]

-- CUT tells the least edge of PATH.
pub least_of_path : (version : ℕ) (sheet : SheetView) (tree : TreeView) (a b : ℕ) (cut path : List ℕ)
    → IsCutReport version sheet tree a b cut → IsPathReport version sheet tree a b path
    → TellLeastOfPath version sheet tree a cut path
least_of_path version sheet tree a b cut path p q =
    let on_path : (c : ℕ) → Contains q.children c → IsOnPath tree.net (up_of tree) a b c =
    λ c. contained-on_path tree.net (up_of tree) a b c q.children q.path in record {
      children = q.children;
      path_told = q.text_is;
      child = p.child;
      on_path = on_path-contained tree.net (up_of tree) a b p.child q.children q.path p.least_edge.on_path;
      least = λ c found. p.least_edge.least c (on_path c found);
      first = λ c found. p.least_edge.first c (on_path c found);
      side = p.side;
      side_is = p.side_is;
      cut_told = p.text_is;
    }

-- the root is on no path, since both ends are below it
on_path-not_root : (tree : TreeView) → HoldsCutTree tree → (a b c : ℕ) → IsTerminal tree.net a → IsTerminal tree.net b
    → IsOnPath tree.net (up_of tree) a b c → c ≢ root_of tree.net
on_path-not_root tree cut_tree a b c a_is b_is on_path is_root =
    let t = tree_of tree.net (root_of tree.net) (up_of tree) (width_of tree) cut_tree in
    false≢true (sym (rw (is_root, t.meets a a_is, t.meets b b_is) refl) ∙ on_path.parting)

-- so each edge on a path parts the two routers by a cut that costs its width
parts_by : (tree : TreeView) → HoldsCutTree tree → (a b c : ℕ) → IsTerminal tree.net a → IsTerminal tree.net b
    → IsOnPath tree.net (up_of tree) a b c → PartsBy tree a b c
parts_by tree cut_tree a b c a_is b_is on_path =
    chosen (below tree.net.routers (up_of tree) c a) (below tree.net.routers (up_of tree) c b) refl refl on_path.parting
  where
    value : cut_value tree.net (below tree.net.routers (up_of tree) c) ≡ width_of tree c
    value = (cut_tree.cuts c on_path.terminal (on_path-not_root tree cut_tree a b c a_is b_is on_path)).value

    chosen : (p q : Bool) → below tree.net.routers (up_of tree) c a ≡ p → below tree.net.routers (up_of tree) c b ≡ q
        → differ p q ≡ true → PartsBy tree a b c
    chosen true false a_below b_above parting = record {
      holds = rw a_below a_below;
      lacks = rw a_below b_above;
      value = rw a_below value;
    }
    chosen false true a_above b_below parting = record {
      holds = rw (a_above, a_above) refl;
      lacks = rw (a_above, b_below) refl;
      value = rw a_above (cut_value-outside tree.net (below tree.net.routers (up_of tree) c) ∙ value);
    }
    chosen true true a_below b_below parting = absurd (false≢true parting)
    chosen false false a_above b_above parting = absurd (false≢true parting)

-- PATH tells edges that part its two routers.
pub parting_edges : (version : ℕ) (sheet : SheetView) (tree : TreeView) → HoldsCutTree tree → (a b : ℕ)
    → IsTerminal tree.net a → IsTerminal tree.net b → (text : List ℕ) → IsPathReport version sheet tree a b text
    → TellPartingEdges version sheet tree a b text
parting_edges version sheet tree cut_tree a b a_is b_is text p = record {
  children = p.children;
  told = p.text_is;
  part = λ c found. parts_by tree cut_tree a b c a_is b_is
      (contained-on_path tree.net (up_of tree) a b c p.children p.path found);
}

-- ---- the weakest cut

-- WEAKEST tells no more than CUT, whose side parts two terminals too.
pub no_more : (version : ℕ) (sheet : SheetView) (tree : TreeView) (a b : ℕ) → IsTerminal tree.net a
    → IsTerminal tree.net b → (weakest cut : List ℕ) → IsWeakestReport version sheet tree weakest
    → IsCutReport version sheet tree a b cut → TellsNoMore version sheet weakest cut
no_more version sheet tree a b a_is b_is weakest cut p q =
    let bound = p.least.least (set_of q.side) record {
      inner = a;
      inner_is = a_is;
      holds = q.least.holds;
      outer = b;
      outer_is = b_is;
      lacks = q.least.lacks;
    } in record {
      value = width_of tree p.child;
      side = p.side;
      told = p.text_is;
      cost = width_of tree q.child;
      cut_side = q.side;
      cut_told = q.text_is;
      no_more = omega (arith, bound, q.least.value);
    }
