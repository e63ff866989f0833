-- The path of two terminals of a cut tree has a least edge, whose side that holds the first is a least cut of the two.
use Rattle.std.proofs.Common.{◌≡◌, ◌≢◌, inl, inr, ℕ, ◌≤◌, Bool, true, false, sym, ◌∙◌, arith, refl, ◌&&◌}
use Rattle.std.specs.Prelude.{◌==◌}
use Rattle.std.proofs.lemmas.Bool.{cases_Bool, false≢true, and_parts, ne_eqb, eq-eqb}
use Rattle.cut_model.specs.Net.{Net}
use Rattle.cut_model.specs.Cuts.{RouterSet, differ, cut_value, IsLeastCut}
use Rattle.cut_model.specs.Terminals.{IsTerminal, is_terminal}
use Rattle.cut_model.proofs.Crossing.{cut_value-outside}
use Rattle.cut_model.proofs.Terminals.{terminal-lt}
use Rattle.tree_state.specs.Tables.{Table, below}
use Rattle.tree_state.specs.Trees.{IsCutTree}
use Rattle.tree_state.specs.Paths.{IsOnPath, IsLeastEdge, side_for, parts}
use Rattle.tree_state.proofs.Trees.{Tree, tree_of}
use Rattle.tree_state.proofs.CutTrees.{IsBoundedAt, path_bounds}
use Rattle.tree_state.proofs.Smallest.{smallest}

-- ---- the side of a least edge

-- of two values that differ, one is true and the other false
differ-true : (p q : Bool) → differ p q ≡ true → p ≡ true → q ≡ false
differ-true p q differing yes_p = grind (arith, cases_Bool q)

-- or the other way round
differ-false : (p q : Bool) → differ p q ≡ true → p ≡ false → q ≡ true
differ-false p q differing not_p = grind (arith, cases_Bool q)

-- the root is on no path, since both ends are below it
on_path-not_root : (net : Net) (root : ℕ) (up width : Table) → IsCutTree net root up width → (a b c : ℕ)
    → IsTerminal net a → IsTerminal net b → IsOnPath net up a b c → c ≢ root
on_path-not_root net root up width cut_tree a b c a_is b_is on_path e =
    let t : Tree net = tree_of net root up width cut_tree in
    false≢true (sym (rw (e, t.meets a a_is, t.meets b b_is) refl) ∙ on_path.parting)

-- what is below the least edge costs its width
least_edge-value : (net : Net) (root : ℕ) (up width : Table) → IsCutTree net root up width → (a b c : ℕ)
    → IsTerminal net a → IsTerminal net b → IsLeastEdge net up width a b c
    → cut_value net (below net.routers up c) ≡ width c
least_edge-value net root up width cut_tree a b c a_is b_is edge =
    (cut_tree.cuts c edge.on_path.terminal
    (on_path-not_root net root up width cut_tree a b c a_is b_is edge.on_path)).value

-- and no set that holds a and lacks b costs less
least_edge-least : (net : Net) (root : ℕ) (up width : Table) → IsCutTree net root up width → (a b c : ℕ)
    → IsTerminal net a → IsTerminal net b → IsLeastEdge net up width a b c
    → (Y : RouterSet) → Y a ≡ true → Y b ≡ false → width c ≤ cut_value net Y
least_edge-least net root up width cut_tree a b c a_is b_is edge Y holds lacks =
    let found : (e : ℕ) × IsBoundedAt net root up width Y a b e
    = path_bounds net root up width cut_tree Y a b a_is b_is holds lacks in
    omega (arith, found.1.bound, edge.least found.0 found.1.on_path)

-- so its side that holds a is a least cut of a from b
pub least_edge_cut : (net : Net) (root : ℕ) (up width : Table) → IsCutTree net root up width → (a b c : ℕ)
    → IsTerminal net a → IsTerminal net b → IsLeastEdge net up width a b c
    → IsLeastCut net a b (side_for net.routers up a c) (width c)
least_edge_cut net root up width cut_tree a b c a_is b_is edge = elim (cases_Bool (below net.routers up c a)) [
  | inl a_below ↦ rw a_below record {
    holds = a_below;
    lacks = differ-true (below net.routers up c a) (below net.routers up c b) edge.on_path.parting a_below;
    value = value;
    least = least;
  }
  | inr a_above ↦ rw a_above record {
    holds = rw a_above refl;
    lacks = rw (differ-false (below net.routers up c a) (below net.routers up c b) edge.on_path.parting a_above) refl;
    value = cut_value-outside net (below net.routers up c) ∙ value;
    least = least;
  }
]
  where
    value : cut_value net (below net.routers up c) ≡ width c
    value = least_edge-value net root up width cut_tree a b c a_is b_is edge

    least : (Y : RouterSet) → Y a ≡ true → Y b ≡ false → width c ≤ cut_value net Y
    least = least_edge-least net root up width cut_tree a b c a_is b_is edge

-- ---- each path has one

-- The terminals on the path of a and b.
path : Net → Table → ℕ → ℕ → RouterSet
path net up a b c = is_terminal net c && parts net.routers up a b c

-- they are on the path
on_path-from : (net : Net) (up : Table) (a b c : ℕ) → path net up a b c ≡ true → IsOnPath net up a b c
unfolding path
on_path-from net up a b c inside =
    let both : (is_terminal net c ≡ true) × (parts net.routers up a b c ≡ true)
    = and_parts (is_terminal net c) (parts net.routers up a b c) inside in
    record { terminal = both.0; parting = both.1 }

-- and no others are
path-from : (net : Net) (up : Table) (a b c : ℕ) → IsOnPath net up a b c → path net up a b c ≡ true
unfolding path
path-from net up a b c on_path = rw (on_path.terminal, on_path.parting) refl

-- two terminals that differ have a least edge: the set of the first alone parts them, so their path isn't empty
pub path_least_edge : (net : Net) (root : ℕ) (up width : Table) → IsCutTree net root up width → (a b : ℕ)
    → IsTerminal net a → IsTerminal net b → a ≢ b → (c : ℕ) × IsLeastEdge net up width a b c
path_least_edge net root up width cut_tree a b a_is b_is apart = elim (smallest (path net up a b) width net.routers) [
  | inl found ↦ (
    found.0,
    record {
      on_path = on_path-from net up a b found.0 found.1.inside;
      least = λ e on_path. found.1.least e (terminal-lt net e on_path.terminal) (path-from net up a b e on_path);
      first = λ e on_path same.
          found.1.first e (terminal-lt net e on_path.terminal) (path-from net up a b e on_path) same;
    },
  )
  | inr none ↦ absurd (
      let some : (c : ℕ) × IsBoundedAt net root up width (λ i. i == a) a b c
      = path_bounds net root up width cut_tree (λ i. i == a) a b a_is b_is (eq-eqb a a refl)
      (ne_eqb b a (λ e. apart (sym e))) in
      false≢true (sym (none some.0 (terminal-lt net some.0 some.1.on_path.terminal))
      ∙ path-from net up a b some.0 some.1.on_path))
]
