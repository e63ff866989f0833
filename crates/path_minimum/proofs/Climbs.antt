-- Where steps up a tree lead.
use Rattle.std.proofs.Common.{◌≡◌, ◌≢◌, inl, inr, ℕ, zero, suc, ◌+◌, ◌<◌, ◌≤◌, true, sym, ◌∙◌, ap, subst, arith, refl}
use Rattle.std.proofs.lemmas.Bool.{cases_eq}
use Rattle.cut_model.specs.Terminals.{IsTerminal, root_of}
use Rattle.cut_model.proofs.Terminals.{terminal-lt}
use Rattle.tree_state.specs.Tables.{Table}
use Rattle.tree_state.specs.Views.{TreeView, up_of, HoldsCutTree}
use Rattle.path_minimum.specs.Depths.{depth_of}
use Rattle.path_minimum.specs.Jumps.{climb}
use Rattle.path_minimum.specs.Stretches.{below_in}
use Rattle.path_minimum.proofs.Ancestors.{top-in, self-in, hanging-in}
use Rattle.path_minimum.proofs.Depths.{depth_of-suc, depth_of-root}

-- no step leads nowhere
pub climb-none : (up : Table) (i : ℕ) → climb up 0 i ≡ i
unfolding climb
climb-none up i = refl

-- a step more begins one higher
pub climb-suc : (up : Table) (k i : ℕ) → climb up (suc k) i ≡ climb up k (up i)
unfolding climb
climb-suc up k i = refl

-- one step leads to the router above
pub climb-one : (up : Table) (i : ℕ) → climb up 1 i ≡ up i
climb-one up i = climb-suc up 0 i ∙ climb-none up (up i)

-- steps behind steps
pub climb-sum : (up : Table) (j k i : ℕ) → climb up (j + k) i ≡ climb up k (climb up j i)
climb-sum up zero k i =
    let e : 0 + k ≡ k = omega arith in
    ap (λ (steps : ℕ). climb up steps i) e ∙ ap (climb up k) (sym (climb-none up i))
climb-sum up (suc j) k i =
    let e : suc j + k ≡ suc (j + k) = omega arith in
    ap (λ (steps : ℕ). climb up steps i) e ∙ climb-suc up (j + k) i ∙ climb-sum up j k (up i)
    ∙ ap (climb up k) (sym (climb-suc up j i))

-- terminals hang from terminals
pub climb-terminal : (tree : TreeView) → HoldsCutTree tree → (k i : ℕ) → IsTerminal tree.net i
    → IsTerminal tree.net (climb (up_of tree) k i)
climb-terminal tree holds zero i i_is = subst (IsTerminal tree.net) (sym (climb-none (up_of tree) i)) i_is
climb-terminal tree holds (suc k) i i_is =
    subst (IsTerminal tree.net) (sym (climb-suc (up_of tree) k i))
    (climb-terminal tree holds k (up_of tree i) (holds.up_is i (terminal-lt tree.net i i_is)))

-- steps lead to what has the first below it
pub climb-below : (tree : TreeView) → HoldsCutTree tree → (k i : ℕ) → IsTerminal tree.net i
    → below_in tree (climb (up_of tree) k i) i ≡ true
climb-below tree holds zero i i_is =
    subst (λ (r : ℕ). below_in tree r i ≡ true) (sym (climb-none (up_of tree) i))
    (self-in tree i (terminal-lt tree.net i i_is))
climb-below tree holds (suc k) i i_is =
    subst (λ (r : ℕ). below_in tree r i ≡ true) (sym (climb-suc (up_of tree) k i))
    (hanging-in tree holds (climb (up_of tree) k (up_of tree i)) i (terminal-lt tree.net i i_is)
    (climb-below tree holds k (up_of tree i) (holds.up_is i (terminal-lt tree.net i i_is))))

-- steps from the root stay there
pub climb-root : (tree : TreeView) → HoldsCutTree tree → (k : ℕ)
    → climb (up_of tree) k (root_of tree.net) ≡ root_of tree.net
climb-root tree holds zero = climb-none (up_of tree) (root_of tree.net)
climb-root tree holds (suc k) =
    climb-suc (up_of tree) k (root_of tree.net) ∙ ap (climb (up_of tree) k) (top-in tree holds)
    ∙ climb-root tree holds k

-- a router of depth 0 is the root
pub highest-root : (tree : TreeView) → HoldsCutTree tree → (i : ℕ) → i < tree.net.routers → depth_of tree i ≡ 0
    → i ≡ root_of tree.net
highest-root tree holds i low high = elim (cases_eq i (root_of tree.net)) [
  | inl top ↦ top
  | inr deep ↦ absurd (omega (arith, depth_of-suc tree holds i low deep))
]

-- as many steps as a router is deep lead to the root, and more too
pub climb-high : (tree : TreeView) → HoldsCutTree tree → (k i : ℕ) → IsTerminal tree.net i → depth_of tree i ≤ k
    → climb (up_of tree) k i ≡ root_of tree.net
climb-high tree holds zero i i_is short =
    climb-none (up_of tree) i ∙ highest-root tree holds i (terminal-lt tree.net i i_is) (omega (arith, short))
climb-high tree holds (suc k) i i_is short = elim (cases_eq i (root_of tree.net)) [
  | inl top ↦ ap (climb (up_of tree) (suc k)) top ∙ climb-root tree holds (suc k)
  | inr deep ↦ climb-suc (up_of tree) k i
      ∙ climb-high tree holds k (up_of tree i) (holds.up_is i (terminal-lt tree.net i i_is))
      (omega (arith, depth_of-suc tree holds i (terminal-lt tree.net i i_is) deep))
]

-- no more steps than a router is deep lead so much higher
pub depth-climb : (tree : TreeView) → HoldsCutTree tree → (k i : ℕ) → IsTerminal tree.net i → k ≤ depth_of tree i
    → depth_of tree (climb (up_of tree) k i) + k ≡ depth_of tree i
depth-climb tree holds zero i i_is low = omega (arith, ap (depth_of tree) (climb-none (up_of tree) i))
depth-climb tree holds (suc k) i i_is low =
    let deep : i ≢ root_of tree.net =
    λ top. let high : depth_of tree i ≡ 0 = ap (depth_of tree) top ∙ depth_of-root tree holds in omega (arith, low) in
    let step = depth_of-suc tree holds i (terminal-lt tree.net i i_is) deep in
    omega (
      arith,
      step,
      ap (depth_of tree) (climb-suc (up_of tree) k i),
      depth-climb tree holds k (up_of tree i) (holds.up_is i (terminal-lt tree.net i i_is)) (omega (arith, step)),
    )
