-- Trees that are kept: their shape, and what it tells of what was told.
use Rattle.std.proofs.Common.{◌≡◌, ◌≢◌, ◌⊎◌, inl, inr, ℕ, zero, suc, ◌+◌, ◌<◌, ◌≤◌, Bool, true, false}
use Rattle.std.proofs.Common.{List, [], ◌∷◌, ◌++◌, length, map, set, take, sym, ◌∙◌, ap, subst, arith, refl}
use Rattle.std.proofs.Common.{get_or-set_same, get_or-set_other}
use Rattle.std.proofs.Math.ListN.{length-set}
use Rattle.std.proofs.lemmas.List.{length-map, map-append}
use Rattle.std.proofs.lemmas.Bool.{cases_Bool, cases_eq, and_parts, eqb-true, eq-eqb, ne_eqb, ltb-true, ltb-false}
use Rattle.std.proofs.lemmas.Bool.{lt-ltb, le-ltb}
use Rattle.std.specs.Prelude.{◌==◌, nat_lt, slice_index, slice_index_or, if◌then◌else◌}
use Rattle.std.specs.List.{list_all}
use Rattle.cut_model.specs.Cuts.{cut_value}
use Rattle.cut_model.specs.Net.{Net}
use Rattle.cut_model.proofs.Costs.{cut_value-same}
use Rattle.tree_state.specs.Tables.{below}
use Rattle.certifier.specs.Blocks.{router_but}
use Rattle.certifier.specs.Certificates.{Refused, Accepted, costs_verdict, tree_verdict}
use Rattle.certifier.specs.Kept.{AreNextFrom, HasShape, IsKept, KeptTree, children_of, kept_edge, kept_of, next_in}
use Rattle.certifier.specs.Kept.{up_among}
use Rattle.certifier.specs.Trees.{Edge, Told, all_end_at_root, costs_width, up_by, up_in}
use Rattle.certifier.specs.Ways.{HangFrom, all_come_to}
use Rattle.certifier.specs.declared.tree.KeptEdge.{KeptEdge}
use Rattle.certifier.proofs.Climbs.{some_up-alike}
use Rattle.certifier.proofs.Ranges.{all_alike, each_passes}

-- ---- the routers but one

-- those before it stand at their own places
pub router_but-before : (root i : ℕ) → i < root → router_but root i ≡ i
router_but-before root i low = rw (lt-ltb i root low) refl

-- and those behind it one place further down
pub router_but-behind : (root i : ℕ) → root ≤ i → router_but root i ≡ i + 1
router_but-behind root i high = rw (le-ltb i root high) refl

-- no router stands at a place behind its own
pub router_but-le : (root i : ℕ) → router_but root i ≤ i + 1
router_but-le root i = elim (cases_Bool (nat_lt i root)) [
  | inl low ↦ omega (arith, router_but-before root i (ltb-true i root low))
  | inr high ↦ omega (arith, router_but-behind root i (ltb-false i root high))
]

-- the one is not among them
pub router_but-not : (root i : ℕ) → router_but root i ≢ root
router_but-not root i e = elim (cases_Bool (nat_lt i root)) [
  | inl low ↦ omega (arith, e, ltb-true i root low, router_but-before root i (ltb-true i root low))
  | inr high ↦ omega (arith, e, ltb-false i root high, router_but-behind root i (ltb-false i root high))
]

-- they stand in the order of their numbers
pub router_but-grows : (root i j : ℕ) → i < j → router_but root i < router_but root j
router_but-grows root i j less = elim (cases_Bool (nat_lt i root)) [
  | inr high ↦ (let from : root ≤ i = ltb-false i root high in
      omega (arith, less, router_but-behind root i from, router_but-behind root j (omega (arith, less, from))))
  | inl low ↦ elim (cases_Bool (nat_lt j root)) [
    | inl low_j ↦ omega (
      arith,
      less,
      router_but-before root i (ltb-true i root low),
      router_but-before root j (ltb-true j root low_j),
    )
    | inr high_j ↦ omega (
      arith,
      less,
      router_but-before root i (ltb-true i root low),
      router_but-behind root j (ltb-false j root high_j),
    )
  ]
]

-- ---- edges in their order

-- one more at the end
pub next_more : (root place : ℕ) (children : List ℕ) (child : ℕ) → AreNextFrom root place children
    → child ≡ router_but root (place + length children) → AreNextFrom root place (children ++ child ∷ [])
next_more root place [] child next is = (is ∙ ap (router_but root) (omega arith), tt)
next_more root place (first ∷ children) child next is =
    (next.0, next_more root (suc place) children child next.1 (is ∙ ap (router_but root) (omega arith)))

-- the lower ends with one edge more
children_of-more : (edges : List KeptEdge) (edge : KeptEdge)
    → children_of (edges ++ edge ∷ []) ≡ children_of edges ++ edge.child ∷ []
children_of-more [] edge = refl
children_of-more (first ∷ edges) edge =
    ap (λ (children : List ℕ). first.child ∷ children) (children_of-more edges edge)

-- as many as edges
pub length-children_of : (edges : List KeptEdge) → length (children_of edges) ≡ length edges
length-children_of [] = refl
length-children_of (first ∷ edges) = ap (λ n. suc n) (length-children_of edges)

-- the lower end of an edge, by the place of the edge
pub next_at : (root place : ℕ) (edges : List KeptEdge) (i : ℕ) (d : KeptEdge)
    → AreNextFrom root place (children_of edges) → i < length edges
    → (slice_index_or edges i d).child ≡ router_but root (place + i)
next_at root place [] i d next low = absurd (omega arith)
next_at root place (edge ∷ edges) zero d next low = next.0 ∙ ap (router_but root) (omega arith)
next_at root place (edge ∷ edges) (suc i) d next low =
    next_at root (suc place) edges i d next.1 (omega arith) ∙ ap (router_but root) (omega arith)

-- what is above each router with one edge more, since no other has its lower end
pub up_among-more : (root place : ℕ) (edges : List KeptEdge) (edge : KeptEdge) (r : ℕ)
    → AreNextFrom root place (children_of edges) → edge.child ≡ router_but root (place + length edges)
    → up_among root (edges ++ edge ∷ []) r ≡ (if edge.child == r then edge.up else up_among root edges r)
up_among-more root place [] edge r next is = refl
up_among-more root place (first ∷ edges) edge r next is = elim (cases_Bool (first.child == r)) [
  | inl here ↦ (let other : (edge.child == r) ≡ false = ne_eqb edge.child r (λ e. omega (
    arith,
    e,
    is,
    next.0,
    eqb-true first.child r here,
    router_but-grows root place (place + suc (length edges)) (omega arith),
  )) in
      rw (here, other) refl)
  | inr there ↦ rw there
      (up_among-more root (suc place) edges edge r next.1 (is ∙ ap (router_but root) (omega arith)))
]

-- the root hangs from itself
up_among-root : (root place : ℕ) (edges : List KeptEdge) → AreNextFrom root place (children_of edges)
    → up_among root edges root ≡ root
up_among-root root place [] next = refl
up_among-root root place (edge ∷ edges) next =
    rw (ne_eqb edge.child root (λ e. router_but-not root place (sym next.0 ∙ e)))
    (up_among-root root (suc place) edges next.1)

-- ---- the shape

-- it is kept where the edge of the next router is added
pub shape_more : (kept : KeptTree) (up : List ℕ) (edge : KeptEdge) → HasShape kept up
    → length kept.edges + 1 < kept.sheet.net.routers → edge.child ≡ next_in kept → edge.up < kept.sheet.net.routers
    → HasShape (record kept { edges = kept.edges ++ edge ∷ [] }) (set up edge.child edge.up)
shape_more kept up edge shape left is up_low = record {
  limits = shape.limits;
  root_is = shape.root_is;
  few = omega (arith, left, length-more kept.edges edge);
  size = length-set up edge.child edge.up ∙ shape.size;
  ups = λ r low. ups r low (cases_eq r edge.child);
  within = λ r low. within r low (cases_eq r edge.child);
  children = rw (children_of-more kept.edges edge) (next_more kept.root 0 (children_of kept.edges) edge.child
      shape.children
      (is ∙ ap (router_but kept.root) (omega (arith, length-children_of kept.edges))));
}
  where
    length-more : (edges : List KeptEdge) (edge : KeptEdge) → length (edges ++ edge ∷ []) ≡ length edges + 1
    length-more [] edge = refl
    length-more (first ∷ edges) edge = omega (arith, length-more edges edge)

    next : edge.child ≡ router_but kept.root (0 + length kept.edges)
    next = is ∙ ap (router_but kept.root) (omega arith)

    ups : (r : ℕ) → r < kept.sheet.net.routers → (r ≡ edge.child) ⊎ (r ≢ edge.child)
        → slice_index (set up edge.child edge.up) r ≡ up_among kept.root (kept.edges ++ edge ∷ []) r
    ups r low (inl here) =
        rw (
          here,
          up_among-more kept.root 0 kept.edges edge edge.child shape.children next,
          eq-eqb edge.child edge.child refl,
        )
        (get_or-set_same up edge.child edge.up 0 (omega (arith, rw here at low, shape.size)))
    ups r low (inr other) =
        rw (up_among-more kept.root 0 kept.edges edge r shape.children next, ne_eqb edge.child r (λ e. other (sym e)))
        (get_or-set_other up edge.child r edge.up 0 other ∙ shape.ups r low)

    within : (r : ℕ) → r < kept.sheet.net.routers → (r ≡ edge.child) ⊎ (r ≢ edge.child)
        → slice_index (set up edge.child edge.up) r < kept.sheet.net.routers
    within r low (inl here) =
        rw (here, get_or-set_same up edge.child edge.up 0 (omega (arith, rw here at low, shape.size))) up_low
    within r low (inr other) = rw (get_or-set_other up edge.child r edge.up 0 other) (shape.within r low)

-- where all ways up come to the root, the routers hang from it
pub shape_hangs : (kept : KeptTree) (up : List ℕ) → HasShape kept up → all_come_to kept.root up ≡ true
    → HangFrom kept.root up
shape_hangs kept up shape all = record {
  routers = record {
    few = omega (arith, shape.size, shape.limits.few_routers);
    within = λ r low. omega (arith, shape.size, shape.within r (omega (arith, shape.size, low)));
  };
  root_is = omega (arith, shape.size, shape.root_is);
  top = shape.ups kept.root shape.root_is ∙ up_among-root kept.root 0 kept.edges shape.children;
  meets = each_passes (below (length up) (slice_index up) kept.root) (length up) all;
}

-- the lower end of an edge is a router
pub shape_child : (kept : KeptTree) (up : List ℕ) (i : ℕ) (d : KeptEdge) → HasShape kept up → i < length kept.edges
    → (slice_index_or kept.edges i d).child < length up
shape_child kept up i d shape low =
    omega (
      arith,
      low,
      shape.size,
      shape.few,
      next_at kept.root 0 kept.edges i d shape.children low,
      router_but-le kept.root (0 + i),
    )

-- ---- what it tells of what was told

-- what is above each router is told by what is kept
up_by-kept : (root : ℕ) (edges : List Edge) (r : ℕ) → up_by root edges r ≡ up_among root (map kept_edge edges) r
up_by-kept root [] r = refl
up_by-kept root (edge ∷ edges) r =
    ap (λ (u : ℕ). if edge.child == r then edge.up else u) (up_by-kept root edges r)

-- so what is below a router is
below_told : (told : Told) (up : List ℕ) → HasShape (kept_of told) up → (c r : ℕ) → r < told.sheet.net.routers
    → below told.sheet.net.routers (up_in told) c r ≡ below (length up) (slice_index up) c r
below_told told up shape c r low =
    rw shape.size
    (sym (some_up-alike (λ j. j == c) (slice_index up) (up_in told) told.sheet.net.routers
    (λ q q_low. shape.ups q q_low ∙ sym (up_by-kept told.root told.edges q)) shape.within told.sheet.net.routers
    r low))

-- whether all ways up come to the root
pub ends_told : (told : Told) (up : List ℕ) → HasShape (kept_of told) up
    → all_end_at_root told ≡ all_come_to told.root up
ends_told told up shape =
    all_alike (below told.sheet.net.routers (up_in told) told.root) (below (length up) (slice_index up) told.root) 0
    told.sheet.net.routers (λ r low. below_told told up shape told.root r (omega arith))
    ∙ rw shape.size refl

-- What is below the lower end of an edge costs what the edge is wide.
abbrev pub is_right : Net → List ℕ → KeptEdge → Bool
is_right net up edge = cut_value net (below (length up) (slice_index up) edge.child) == edge.width

-- and whether an edge is as wide as what is below it costs
costs_told : (told : Told) (up : List ℕ) → HasShape (kept_of told) up → (edge : Edge)
    → costs_width told edge ≡ is_right told.sheet.net up (kept_edge edge)
costs_told told up shape edge =
    ap (λ (value : ℕ). value == edge.width)
    (cut_value-same told.sheet.net shape.limits (below told.sheet.net.routers (up_in told) edge.child)
    (below (length up) (slice_index up) edge.child) (λ r low. below_told told up shape edge.child r low))

-- ---- the verdict

-- where all edges are right, the tree is accepted
pub costs_right : (told : Told) (up : List ℕ) → HasShape (kept_of told) up → (edges : List Edge)
    → list_all (is_right told.sheet.net up) (map kept_edge edges) ≡ true → costs_verdict told edges ≡ Accepted told
costs_right told up shape [] all = refl
costs_right told up shape (edge ∷ edges) all =
    let both = and_parts (is_right told.sheet.net up (kept_edge edge))
    (list_all (is_right told.sheet.net up) (map kept_edge edges)) all in
    rw (costs_told told up shape edge ∙ both.0) (costs_right told up shape edges both.1)

-- the first that isn't is told
pub costs_wrong : (told : Told) (up : List ℕ) → HasShape (kept_of told) up → (edges : List Edge) (i : ℕ) (d : KeptEdge)
    → i < length (map kept_edge edges)
    → list_all (is_right told.sheet.net up) (take i (map kept_edge edges)) ≡ true
    → is_right told.sheet.net up (slice_index_or (map kept_edge edges) i d) ≡ false
    → costs_verdict told edges ≡ Refused record { number = 39; line = (slice_index_or (map kept_edge edges) i d).line }
costs_wrong told up shape [] i d low all wrong = absurd (omega arith)
costs_wrong told up shape (edge ∷ edges) zero d low all wrong = rw (costs_told told up shape edge ∙ wrong) refl
costs_wrong told up shape (edge ∷ edges) (suc i) d low all wrong =
    let both = and_parts (is_right told.sheet.net up (kept_edge edge))
    (list_all (is_right told.sheet.net up) (take i (map kept_edge edges))) all in
    rw (costs_told told up shape edge ∙ both.0) (costs_wrong told up shape edges i d (omega arith) both.1 wrong)

-- some way up doesn't come to the root
pub verdict_ends : (told : Told) (kept : KeptTree) (up : List ℕ) (done : ℕ) → IsKept told kept → HasShape kept up
    → all_come_to kept.root up ≡ false → tree_verdict done told ≡ Refused record { number = 38; line = done }
verdict_ends told kept up done is =
    subst (λ (k : KeptTree). HasShape k up → all_come_to k.root up ≡ false
    → tree_verdict done told ≡ Refused record { number = 38; line = done })
    (sym is) (λ shape ends. rw (ends_told told up shape ∙ ends) refl)

-- all do, and all edges are right
pub verdict_right : (told : Told) (kept : KeptTree) (up : List ℕ) (done : ℕ) → IsKept told kept → HasShape kept up
    → all_come_to kept.root up ≡ true → list_all (is_right kept.sheet.net up) kept.edges ≡ true
    → tree_verdict done told ≡ Accepted told
verdict_right told kept up done is =
    subst (λ (k : KeptTree). HasShape k up → all_come_to k.root up ≡ true
    → list_all (is_right k.sheet.net up) k.edges ≡ true → tree_verdict done told ≡ Accepted told)
    (sym is) (λ shape ends all. rw (ends_told told up shape ∙ ends) (costs_right told up shape told.edges all))

-- An edge is the first that isn't right.
pub record IsFirstWrong (net : Net) (up : List ℕ) (edges : List KeptEdge) (i : ℕ) (d : KeptEdge) : Type 0 where
  pub within : i < length edges
  pub before : list_all (is_right net up) (take i edges) ≡ true
  pub wrong : is_right net up (slice_index_or edges i d) ≡ false

-- all do, and an edge is the first that isn't right
pub verdict_wrong : (told : Told) (kept : KeptTree) (up : List ℕ) (done i : ℕ) (d : KeptEdge) → IsKept told kept
    → HasShape kept up → all_come_to kept.root up ≡ true → IsFirstWrong kept.sheet.net up kept.edges i d
    → tree_verdict done told ≡ Refused record { number = 39; line = (slice_index_or kept.edges i d).line }
verdict_wrong told kept up done i d is =
    subst (λ (k : KeptTree). HasShape k up → all_come_to k.root up ≡ true
    → IsFirstWrong k.sheet.net up k.edges i d
    → tree_verdict done told ≡ Refused record { number = 39; line = (slice_index_or k.edges i d).line })
    (sym is) (λ shape ends first. rw (ends_told told up shape ∙ ends)
    (costs_wrong told up shape told.edges i d first.within first.before first.wrong))

-- ---- what is told next

-- with an edge more, what is kept of it is kept
pub kept_more : (told : Told) (kept : KeptTree) (edge : Edge) → IsKept told kept
    → IsKept (record told { edges = told.edges ++ edge ∷ [] })
    (record kept { edges = kept.edges ++ kept_edge edge ∷ [] })
kept_more told kept edge is =
    subst (λ (k : KeptTree). IsKept (record told { edges = told.edges ++ edge ∷ [] })
    (record k { edges = k.edges ++ kept_edge edge ∷ [] }))
    (sym is) (ap (λ (edges : List KeptEdge). record { sheet = told.sheet; root = told.root; edges = edges })
    (sym (map-append kept_edge told.edges (edge ∷ []))))

-- as many edges are kept as were told
pub length-kept : (told : Told) (kept : KeptTree) → IsKept told kept → length kept.edges ≡ length told.edges
length-kept told kept is =
    ap (λ (k : KeptTree). length k.edges) is ∙ length-map told.edges kept_edge
