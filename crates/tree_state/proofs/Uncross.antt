-- Uncrossing: the side of a commit goes round each branch that hangs from t, and costs no more by that.
use Rattle.std.proofs.Common.{◌≡◌, ◌≢◌, inl, inr, ℕ, zero, suc, ◌<◌, ◌≤◌, Bool, true, false, cond, ◌&&◌, ◌||◌}
use Rattle.std.proofs.Common.{sym, ◌∙◌, ap, arith, refl}
use Rattle.std.specs.Prelude.{◌==◌}
use Rattle.std.proofs.lemmas.Bool.{cases_Bool, false≢true, eqb-true}
use Rattle.std.proofs.lemmas.Bool.Decides.{eqb_tells}
use Rattle.cut_model.specs.Net.{Net}
use Rattle.cut_model.specs.Cuts.{RouterSet, cut_value, IsLeastCut}
use Rattle.cut_model.specs.Crossing.{◌∖◌, ◌∪◌}
use Rattle.cut_model.proofs.Crossing.{grow, shrink}
use Rattle.tree_state.specs.Tables.{Table}
use Rattle.tree_state.proofs.Stages.{Stage, Commit, HasCuts, under, under_is, under-deeper, deeper, done-not_root}

-- The heads of the branches that hang from t: the committed routers right below it.
pub heads : (g : Stage) → Commit g → RouterSet
heads g c r = g.done r && (g.up r == c.t)

-- a head is committed
pub head-done : (g : Stage) (c : Commit g) (r : ℕ) → heads g c r ≡ true → g.done r ≡ true
unfolding heads
head-done g c r head = grind (arith, cases_Bool (g.done r))

-- and hangs from t
pub head-up : (g : Stage) (c : Commit g) (r : ℕ) → heads g c r ≡ true → g.up r ≡ c.t
unfolding heads
head-up g c r head = grind (arith, cases_Bool (g.done r), eqb_tells (g.up r) c.t)

-- each such router is one
pub head-from : (g : Stage) (c : Commit g) (r : ℕ) → g.done r ≡ true → g.up r ≡ c.t → heads g c r ≡ true
unfolding heads
head-from g c r committed hangs = grind (arith, eqb_tells (g.up r) c.t)

-- a head isn't the root
pub head-not_root : (g : Stage) (c : Commit g) (r : ℕ) → heads g c r ≡ true → r ≢ g.root
head-not_root g c r head = done-not_root g r (head-done g c r head)

-- a head lies deeper than t
head-deeper : (g : Stage) (c : Commit g) (r : ℕ) → heads g c r ≡ true → g.depth c.t < g.depth r
head-deeper g c r head =
    omega (arith, deeper g r (head-not_root g c r head), ap g.depth (head-up g c r head))

-- ---- the uncrossed side

-- A set with a whole branch, or without any of it, by where the head of the branch is.
pub with_branch : RouterSet → RouterSet → Bool → Bool → RouterSet
with_branch Z branch is_head head_in = cond is_head (cond head_in (Z ∪ branch) (Z ∖ branch)) Z

-- The side of the commit, after it went round the branches whose heads are numbers below m.
pub uncross : (g : Stage) → Commit g → ℕ → RouterSet
uncross g c zero = c.X
uncross g c (suc m) = with_branch (uncross g c m) (under g m) (heads g c m) (c.X m)

-- at first it is the side itself
uncross-zero : (g : Stage) (c : Commit g) → uncross g c zero ≡ c.X
unfolding uncross
uncross-zero g c = refl

-- a number that heads no branch changes nothing
pub uncross-none : (g : Stage) (c : Commit g) (m : ℕ) → heads g c m ≡ false → uncross g c (suc m) ≡ uncross g c m
unfolding uncross with_branch
uncross-none g c m none = rw none refl

-- a branch whose head is in comes in whole
uncross-in : (g : Stage) (c : Commit g) (m : ℕ) → heads g c m ≡ true → c.X m ≡ true
    → uncross g c (suc m) ≡ uncross g c m ∪ under g m
unfolding uncross with_branch
uncross-in g c m head inside = rw (head, inside) refl

-- a branch whose head is out goes out whole
uncross-out : (g : Stage) (c : Commit g) (m : ℕ) → heads g c m ≡ true → c.X m ≡ false
    → uncross g c (suc m) ≡ uncross g c m ∖ under g m
unfolding uncross with_branch
uncross-out g c m head outside = rw (head, outside) refl

-- so each router of a branch is where its head is
pub uncross-branch : (g : Stage) (c : Commit g) (m i : ℕ) → heads g c m ≡ true → under g m i ≡ true
    → uncross g c (suc m) i ≡ c.X m
uncross-branch g c m i head below = elim (cases_Bool (c.X m)) [
  | inl inside ↦
      rw (uncross-in g c m head inside, below, inside) (grind (arith, cases_Bool (uncross g c m i)))
  | inr outside ↦
      rw (uncross-out g c m head outside, below, outside) (grind (arith, cases_Bool (uncross g c m i)))
]

-- and each router outside of it stays where it was
pub uncross-elsewhere : (g : Stage) (c : Commit g) (m i : ℕ) → under g m i ≡ false
    → uncross g c (suc m) i ≡ uncross g c m i
uncross-elsewhere g c m i elsewhere = elim (cases_Bool (heads g c m)) [
  | inr none ↦ rw (uncross-none g c m none) refl
  | inl head ↦ elim (cases_Bool (c.X m)) [
    | inl inside ↦
        rw (uncross-in g c m head inside, elsewhere) (grind (arith, cases_Bool (uncross g c m i)))
    | inr outside ↦
        rw (uncross-out g c m head outside, elsewhere) (grind (arith, cases_Bool (uncross g c m i)))
  ]
]

-- ---- who stays where it was

-- a router that is where the head of each branch above it is
uncross-same : (g : Stage) (c : Commit g) (i : ℕ)
    → ((r : ℕ) → heads g c r ≡ true → under g r i ≡ true → c.X r ≡ c.X i) → (m : ℕ) → uncross g c m i ≡ c.X i
uncross-same g c i alike zero = rw (uncross-zero g c) refl
uncross-same g c i alike (suc m) = elim (cases_Bool (under g m i)) [
  | inr elsewhere ↦ uncross-elsewhere g c m i elsewhere ∙ uncross-same g c i alike m
  | inl below ↦ elim (cases_Bool (heads g c m)) [
    | inl head ↦ uncross-branch g c m i head below ∙ alike m head below
    | inr none ↦ rw (uncross-none g c m none) (uncross-same g c i alike m)
  ]
]

-- so t stays, and whatever lies no deeper, since it is in no branch
pub uncross-high : (g : Stage) (c : Commit g) (i : ℕ) → g.depth i ≤ g.depth c.t → (m : ℕ)
    → uncross g c m i ≡ c.X i
uncross-high g c i high =
    uncross-same g c i (λ r head below. absurd (false≢true (sym (elsewhere r head) ∙ below)))
  where
    elsewhere : (r : ℕ) → heads g c r ≡ true → under g r i ≡ false
    elsewhere r head = under-deeper g r i (omega (arith, head-deeper g c r head))

-- and whatever hangs from t stays, since it is in no branch but its own
pub uncross-hanging : (g : Stage) (c : Commit g) (i : ℕ) → g.up i ≡ c.t → (m : ℕ) → uncross g c m i ≡ c.X i
uncross-hanging g c i hangs = uncross-same g c i (λ r head below. ap c.X (sym (own r head below)))
  where
    own : (r : ℕ) → heads g c r ≡ true → under g r i ≡ true → i ≡ r
    own r head below =
        let t_elsewhere : under g r c.t ≡ false = under-deeper g r c.t (head-deeper g c r head) in
        let i_alone : under g r i ≡ ((i == r) || under g r (g.up i)) = under_is g r i (head-not_root g c r head) in
        eqb-true i r (sym (i_alone ∙ rw (hangs, t_elsewhere) (grind (arith, cases_Bool (i == r)))) ∙ below)

-- ---- what it costs

-- going round a branch costs nothing, as what is under its head is a least cut of the head from t
uncross-step_le : (net : Net) (g : Stage) (c : Commit g) (width : Table) → HasCuts net g width → (m : ℕ)
    → cut_value net (uncross g c (suc m)) ≤ cut_value net (uncross g c m)
uncross-step_le net g c width cuts m = elim (cases_Bool (heads g c m)) [
  | inr none ↦ rw (uncross-none g c m none) (omega arith)
  | inl head ↦ elim (cases_Bool (c.X m)) [
    | inl inside ↦
        rw (uncross-in g c m head inside)
        (grow net m c.t (width m) (under g m) (uncross g c m) (cut head) (stays head ∙ inside))
    | inr outside ↦
        rw (uncross-out g c m head outside)
        (shrink net m c.t (width m) (under g m) (uncross g c m) (cut head) (stays head ∙ outside))
  ]
]
  where
    cut : heads g c m ≡ true → IsLeastCut net m c.t (under g m) (width m)
    cut head = rw (head-up g c m head) at (cuts m (head-done g c m head))

    stays : heads g c m ≡ true → uncross g c m m ≡ c.X m
    stays head = uncross-hanging g c m (head-up g c m head) m

-- so the uncrossed side costs no more than the side
pub uncross-le : (net : Net) (g : Stage) (c : Commit g) (width : Table) → HasCuts net g width → (m : ℕ)
    → cut_value net (uncross g c m) ≤ cut_value net c.X
uncross-le net g c width cuts zero = rw (uncross-zero g c) (omega arith)
uncross-le net g c width cuts (suc m) =
    omega (arith, uncross-step_le net g c width cuts m, uncross-le net g c width cuts m)
