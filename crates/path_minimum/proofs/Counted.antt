-- The weakest edge of all, and that there is none just where there is one terminal.
use Rattle.std.proofs.Common.{◌≡◌, ◌≢◌, inl, inr, ℕ, suc, ◌<◌, ◌≤◌, true, false, Option, Some, None}
use Rattle.std.proofs.Common.{sym, ◌∙◌, ap, subst, arith, refl}
use Rattle.std.specs.Prelude.{IsNone, IfSome}
use Rattle.std.proofs.lemmas.Bool.{cases_Bool, cases_eq, false≢true}
use Rattle.cut_model.specs.Cuts.{RouterSet}
use Rattle.cut_model.specs.Terminals.{IsTerminal, is_terminal, number_in, terminal_count, root_of}
use Rattle.cut_model.proofs.Counting.{with_number, with_number-same, with_number-other, number_in-none, number_in-new}
use Rattle.cut_model.proofs.Counting.{number_in-same}
use Rattle.cut_model.proofs.Terminals.{terminal-lt}
use Rattle.tree_state.specs.Views.{TreeView, up_of, width_of, HoldsCutTree}
use Rattle.tree_state.specs.Paths.{IsWeakest, IsGlobalCut}
use Rattle.tree_state.specs.Tables.{below}
use Rattle.tree_state.proofs.WeakestEdges.{weakest_edge_cut}
use Rattle.path_minimum.specs.declared.least_edge.PathLeast.{PathLeast}
use Rattle.path_minimum.specs.Walks.{edge_of, ComesFirst, IsWeakestOf, IsWeakestBelow}
use Rattle.path_minimum.proofs.SizesBelow.{number_in-part}

-- ---- one or two

-- no number
empty : RouterSet
empty i = false

-- a set of one number alone has one
number_in-one : (X : RouterSet) (r n : ℕ) → r < n → X r ≡ true → ((i : ℕ) → i < n → X i ≡ true → i ≡ r)
    → number_in X n ≡ 1
unfolding empty
number_in-one X r n low inside only =
    number_in-same X (with_number r empty) n (λ i within. elim (cases_eq i r) [
      | inl here ↦ ap X here ∙ inside ∙ sym (ap (with_number r empty) here ∙ with_number-same r empty)
      | inr other ↦ elim (cases_Bool (X i)) [
        | inl holds ↦ absurd (other (only i within holds))
        | inr out ↦ out ∙ sym (with_number-other r empty i other)
      ]
    ])
    ∙ number_in-new empty r n refl low
    ∙ ap (λ (k : ℕ). suc k) (number_in-none empty (λ i. refl) n)

-- a set of two numbers has two or more
number_in-two : (X : RouterSet) (r s n : ℕ) → r < n → s < n → r ≢ s → X r ≡ true → X s ≡ true → 2 ≤ number_in X n
unfolding empty
number_in-two X r s n r_low s_low apart r_in s_in = omega (
  arith,
  number_in-part (with_number r (with_number s empty)) X n (λ i low inside. elim (cases_eq i r) [
    | inl here ↦ ap X here ∙ r_in
    | inr other ↦ elim (cases_eq i s) [
      | inl there ↦ ap X there ∙ s_in
      | inr neither ↦ absurd (false≢true (sym (with_number-other r (with_number s empty) i other
          ∙ with_number-other s empty i neither) ∙ inside))
    ]
  ]),
  number_in-new (with_number s empty) r n (with_number-other s empty r apart) r_low,
  number_in-new empty s n refl s_low,
)

-- ---- the weakest edge of all

-- no edge is found where there is one terminal alone, and only there
pub weakest-none : (tree : TreeView) → HoldsCutTree tree → (end : ℕ) (least : Option PathLeast)
    → tree.net.routers ≤ end → IsWeakestBelow tree end least
    → (IsNone least → terminal_count tree.net ≡ 1) × (terminal_count tree.net ≡ 1 → IsNone least)
weakest-none tree holds end None all only = (
  λ none. number_in-one (is_terminal tree.net) (root_of tree.net) tree.net.routers
      (terminal-lt tree.net (root_of tree.net) holds.root_is) holds.root_is
      (λ c low c_is. only c (omega arith) c_is),
  λ one. refl,
)
weakest-none tree holds end (Some edge) all weakest = (
  λ none. absurd (false≢true (sym none)),
  λ one. absurd (omega (
    arith,
    number_in-two (is_terminal tree.net) edge.child (root_of tree.net) tree.net.routers
        (terminal-lt tree.net edge.child weakest.terminal) (terminal-lt tree.net (root_of tree.net) holds.root_is)
        weakest.not_root weakest.terminal holds.root_is,
  )),
)

-- the weakest edge above all routers is that of the tree
weakest-is : (tree : TreeView) (end : ℕ) (edge : PathLeast) → tree.net.routers ≤ end → IsWeakestOf tree end edge
    → IsWeakest tree.net (root_of tree.net) (width_of tree) edge.child
weakest-is tree end edge all weakest = record {
  terminal = weakest.terminal;
  not_root = weakest.not_root;
  least = λ e e_is other. (first e e_is other).least;
  first = λ e e_is other. (first e e_is other).first;
}
  where
    first : (e : ℕ) → IsTerminal tree.net e → e ≢ root_of tree.net
        → ComesFirst (edge_of tree edge.child) (edge_of tree e)
    first e e_is other = subst (λ (p : PathLeast). ComesFirst p (edge_of tree e)) weakest.edge_is
        (weakest.least e (omega (arith, terminal-lt tree.net e e_is)) e_is other)

-- if there is one
pub weakest-edge : (tree : TreeView) (end : ℕ) (least : Option PathLeast) → tree.net.routers ≤ end
    → IsWeakestBelow tree end least
    → IfSome least (λ edge. IsWeakest tree.net (root_of tree.net) (width_of tree) edge.child)
weakest-edge tree end None all only = tt
weakest-edge tree end (Some edge) all weakest = weakest-is tree end edge all weakest

-- it is an edge above a router of the network
pub weakest-within : (tree : TreeView) (end : ℕ) (least : Option PathLeast) → IsWeakestBelow tree end least
    → IfSome least (λ edge. edge.child < tree.net.routers)
weakest-within tree end None only = tt
weakest-within tree end (Some edge) weakest = terminal-lt tree.net edge.child weakest.terminal

-- and what is below it is a least cut of the whole network
pub weakest-cut : (tree : TreeView) → HoldsCutTree tree → (end : ℕ) (least : Option PathLeast)
    → tree.net.routers ≤ end → IsWeakestBelow tree end least
    → IfSome least (λ edge. IsGlobalCut tree.net (below tree.net.routers (up_of tree) edge.child) edge.width)
weakest-cut tree holds end None all only = tt
weakest-cut tree holds end (Some edge) all weakest =
    subst (λ (k : ℕ). IsGlobalCut tree.net (below tree.net.routers (up_of tree) edge.child) k)
    (sym (ap (λ (p : PathLeast). p.width) weakest.edge_is))
    (weakest_edge_cut tree.net (root_of tree.net) (up_of tree) (width_of tree) holds edge.child
    (weakest-is tree end edge all weakest))
