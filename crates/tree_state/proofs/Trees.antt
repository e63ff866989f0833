-- The terminals of a cut tree as a tree: depths, and the terminals below one.
use Rattle.std.proofs.Common.{◌≡◌, ◌≢◌, inl, inr, ℕ, zero, suc, ◌<◌, ◌≤◌, Bool, true, false, cond, ◌||◌}
use Rattle.std.proofs.Common.{sym, ◌∙◌, ap, arith, refl}
use Rattle.std.specs.Prelude.{◌==◌}
use Rattle.std.proofs.lemmas.Bool.{cases_Bool, cases_eq, false≢true, eq-eqb, ne_eqb}
use Rattle.cut_model.specs.Net.{Net}
use Rattle.cut_model.specs.Cuts.{RouterSet}
use Rattle.cut_model.specs.Terminals.{IsTerminal}
use Rattle.cut_model.proofs.Terminals.{terminal-lt}
use Rattle.tree_state.specs.Tables.{Table, some_up, below}
use Rattle.tree_state.specs.Trees.{IsCutTree}
use Rattle.tree_state.proofs.Forest.{some_up-suc, some_up-zero, some_up-root}
use Rattle.tree_state.proofs.Climbing.{IsHung, meets_root, root_hangs}

-- ---- how far it is to the root

-- The number of steps from a router up to the root, within k routers.
pub steps_up : Table → ℕ → ℕ → ℕ → ℕ
steps_up up root zero i = 0
steps_up up root (suc k) i = cond (i == root) 0 (suc (steps_up up root k (up i)))

-- no step from the root
pub steps_up-root : (up : Table) (root n : ℕ) → steps_up up root n root ≡ 0
unfolding steps_up
steps_up-root up root zero = refl
steps_up-root up root (suc n) = rw (eq-eqb root root refl) refl

-- one step more than from the router above
pub steps_up-suc : (up : Table) (root n i : ℕ) → i ≢ root → steps_up up root (suc n) i ≡ suc (steps_up up root n (up i))
unfolding steps_up
steps_up-suc up root n i not_root = rw (ne_eqb i root not_root) refl

-- what is known of the way up of the router above, where the router isn't the root
pub met_above : (up : Table) (root k i : ℕ) → (i == root) ≡ false → some_up (λ j. j == root) up (suc k) i ≡ true
    → some_up (λ j. j == root) up k (up i) ≡ true
met_above up root k i not_root met = rw not_root at (sym (some_up-suc (λ j. j == root) up k i) ∙ met)

-- fewer steps than routers of a way up that meets the root
pub steps_up-lt : (up : Table) (root k i : ℕ) → some_up (λ j. j == root) up k i ≡ true → steps_up up root k i < k
unfolding steps_up
steps_up-lt up root zero i met = absurd (false≢true (sym (some_up-zero (λ j. j == root) up i) ∙ met))
steps_up-lt up root (suc k) i met = elim (cases_Bool (i == root)) [
  | inl top ↦ rw top (omega arith)
  | inr below_top ↦ (let above : steps_up up root k (up i) < k
      = steps_up-lt up root k (up i) (met_above up root k i below_top met) in
      rw below_top (omega arith))
]

-- and a longer way up has no more
pub steps_up-longer : (up : Table) (root k i : ℕ) → some_up (λ j. j == root) up k i ≡ true
    → steps_up up root (suc k) i ≡ steps_up up root k i
unfolding steps_up
steps_up-longer up root zero i met = absurd (false≢true (sym (some_up-zero (λ j. j == root) up i) ∙ met))
steps_up-longer up root (suc k) i met = elim (cases_Bool (i == root)) [
  | inl top ↦ rw top refl
  | inr below_top ↦ rw below_top
      (ap (λ (m : ℕ). suc m) (steps_up-longer up root k (up i) (met_above up root k i below_top met)))
]

-- ---- the tree

-- The terminals of a network as a tree of one root.
pub record Tree (net : Net) : Type 0 where
  pub root : ℕ
  pub up : Table
  pub depth : Table
  pub root_is : IsTerminal net root
  pub up_is : (i : ℕ) → IsTerminal net i → IsTerminal net (up i)
  pub top : up root ≡ root
  pub depth_root : depth root ≡ 0
  pub step : (i : ℕ) → IsTerminal net i → i ≢ root → depth i ≡ suc (depth (up i))
  pub short : (i : ℕ) → IsTerminal net i → depth i < net.routers
  pub meets : (i : ℕ) → IsTerminal net i → below net.routers up root i ≡ true

-- a table in which the root hangs from itself and every way up meets it is one
abbrev pub tree_of_ways : (net : Net) (root : ℕ) (up : Table) → IsTerminal net root
    → ((i : ℕ) → IsTerminal net i → IsTerminal net (up i)) → up root ≡ root
    → ((i : ℕ) → IsTerminal net i → below net.routers up root i ≡ true) → Tree net
tree_of_ways net root up root_is up_is top meets = record {
  root = root;
  up = up;
  depth = steps_up up root net.routers;
  root_is = root_is;
  up_is = up_is;
  top = top;
  depth_root = steps_up-root up root net.routers;
  step = λ i terminal not_root. sym (steps_up-longer up root net.routers i (meets i terminal))
      ∙ steps_up-suc up root net.routers i not_root;
  short = λ i terminal. steps_up-lt up root net.routers i (meets i terminal);
  meets = meets;
}

-- a cut tree is hung: what is below a terminal lacks the router above it
pub hung_of : (net : Net) (root : ℕ) (up width : Table) → IsCutTree net root up width → IsHung net root up
hung_of net root up width cut_tree = record {
  root_is = cut_tree.root_is;
  up_is = λ i terminal. cut_tree.up_is i (terminal-lt net i terminal);
  lacks = λ c terminal not_root. (cut_tree.cuts c terminal not_root).lacks;
}

-- The tree of a cut tree.
abbrev pub tree_of : (net : Net) (root : ℕ) (up width : Table) → IsCutTree net root up width → Tree net
tree_of net root up width cut_tree =
    let hung : IsHung net root up = hung_of net root up width cut_tree in
    tree_of_ways net root up hung.root_is hung.up_is (root_hangs net root up hung) (meets_root net root up hung)

-- ---- the terminals below one

-- a way up from a terminal that is long enough to reach the root meets no more if it goes on
pub tree-longer : (net : Net) (t : Tree net) (P : RouterSet) → P t.root ≡ false → (k i : ℕ) → IsTerminal net i
    → t.depth i ≤ k → some_up P t.up (suc k) i ≡ some_up P t.up k i
tree-longer net t P lacks zero i terminal low =
    let e : i ≡ t.root = grind (arith, cases_eq i t.root, t.step i terminal) in
    rw e (some_up-root P t.up t.root 1 t.top lacks ∙ sym (some_up-root P t.up t.root 0 t.top lacks))
tree-longer net t P lacks (suc k) i terminal low = elim (cases_eq i t.root) [
  | inl e ↦
      rw e (some_up-root P t.up t.root (suc (suc k)) t.top lacks
      ∙ sym (some_up-root P t.up t.root (suc k) t.top lacks))
  | inr ne ↦ (let above : t.depth (t.up i) ≤ k = omega (arith, t.step i terminal ne) in
      rw (some_up-suc P t.up (suc k) i, some_up-suc P t.up k i)
      (ap (λ (b : Bool). P i || b) (tree-longer net t P lacks k (t.up i) (t.up_is i terminal) above)))
]

-- The terminals, and others, whose way up holds c.
abbrev pub tree_below : (net : Net) → Tree net → ℕ → RouterSet
tree_below net t c = below net.routers t.up c

-- the root is below no other terminal
pub tree_below-root : (net : Net) (t : Tree net) (c : ℕ) → c ≢ t.root → tree_below net t c t.root ≡ false
tree_below-root net t c not_root =
    some_up-root (λ j. j == c) t.up t.root net.routers t.top (ne_eqb t.root c (λ e. not_root (sym e)))

-- below c are c and what hangs from a router below c
pub tree_below_is : (net : Net) (t : Tree net) (c i : ℕ) → c ≢ t.root → IsTerminal net i
    → tree_below net t c i ≡ ((i == c) || tree_below net t c (t.up i))
tree_below_is net t c i not_root terminal =
    sym (tree-longer net t (λ j. j == c) (ne_eqb t.root c (λ e. not_root (sym e))) net.routers i terminal
    (omega (arith, t.short i terminal)))
    ∙ some_up-suc (λ j. j == c) t.up net.routers i

-- a terminal is below itself
pub tree_below-self : (net : Net) (t : Tree net) (c : ℕ) → c ≢ t.root → IsTerminal net c
    → tree_below net t c c ≡ true
tree_below-self net t c not_root terminal = rw (tree_below_is net t c c not_root terminal, eq-eqb c c refl) refl

-- and no other that lies no deeper is, by induction over its depth
tree_below-high_within : (net : Net) (t : Tree net) (c : ℕ) → c ≢ t.root → (k i : ℕ) → IsTerminal net i
    → t.depth i ≤ k → t.depth i ≤ t.depth c → i ≢ c → tree_below net t c i ≡ false
tree_below-high_within net t c not_root zero i terminal low high other =
    let e : i ≡ t.root = grind (arith, cases_eq i t.root, t.step i terminal) in
    rw e (tree_below-root net t c not_root)
tree_below-high_within net t c not_root (suc k) i terminal low high other = elim (cases_eq i t.root) [
  | inl e ↦ rw e (tree_below-root net t c not_root)
  | inr ne ↦ (let one : t.depth i ≡ suc (t.depth (t.up i)) = t.step i terminal ne in
      rw (tree_below_is net t c i not_root terminal, ne_eqb i c other)
      (tree_below-high_within net t c not_root k (t.up i) (t.up_is i terminal) (omega arith) (omega arith)
      (λ e. let same : t.depth (t.up i) ≡ t.depth c = ap t.depth e in omega arith)))
]

-- so none is
pub tree_below-high : (net : Net) (t : Tree net) (c i : ℕ) → c ≢ t.root → IsTerminal net i
    → t.depth i ≤ t.depth c → i ≢ c → tree_below net t c i ≡ false
tree_below-high net t c i not_root terminal high other =
    tree_below-high_within net t c not_root (t.depth i) i terminal (omega arith) high other

-- nor the router that it hangs from
pub tree_below-up : (net : Net) (t : Tree net) (c : ℕ) → c ≢ t.root → IsTerminal net c
    → tree_below net t c (t.up c) ≡ false
tree_below-up net t c not_root terminal =
    let one : t.depth c ≡ suc (t.depth (t.up c)) = t.step c terminal not_root in
    tree_below-high net t c (t.up c) not_root (t.up_is c terminal) (omega arith)
    (λ e. let same : t.depth (t.up c) ≡ t.depth c = ap t.depth e in omega arith)
