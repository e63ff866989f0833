-- Stages of a growing tree, the routers under one, and commits that may follow.
use Rattle.std.proofs.Common.{◌≡◌, ◌≢◌, ◌⊎◌, inl, inr, ℕ, suc, ◌<◌, ◌≤◌, true, false, ◌||◌}
use Rattle.std.proofs.Common.{sym, ◌∙◌, ap, arith, refl}
use Rattle.std.specs.Prelude.{◌==◌}
use Rattle.std.proofs.lemmas.Bool.{cases_Bool, false≢true, eqb-true, eq-eqb, ne_eqb}
use Rattle.std.proofs.lemmas.Bool.Decides.{eqb_tells}
use Rattle.cut_model.specs.Net.{Net}
use Rattle.cut_model.specs.Cuts.{RouterSet, IsLeastCut}
use Rattle.tree_state.specs.Tables.{Table, swaps, up_after, width_after, below}
use Rattle.tree_state.proofs.Forest.{IsForest, some_up-root, some_up_is, some_up-deeper}

-- What the tables of m commits among n routers keep: every way up ends at the root, only the root and committed
-- routers have others right below them, these are among the routers, and no way up is longer than the commits allow.
pub record HasShape (n m root : ℕ) (up depth : Table) (done : RouterSet) : Type 0 where
  pub forest : IsForest root up depth
  pub inner : (i : ℕ) → (up i ≡ root) ⊎ (done (up i) ≡ true)
  pub root_free : done root ≡ false
  pub within : (i : ℕ) → done i ≡ true → i < n
  pub shallow : (i : ℕ) → depth i ≤ suc m
  pub shallow_done : (i : ℕ) → done i ≡ true → depth i ≤ m
  pub room : suc m ≤ n

-- Tables of that shape, with the depths and the committed routers that show it.
pub record Stage : Type 0 where
  pub routers : ℕ
  pub commits : ℕ
  pub root : ℕ
  pub up : Table
  pub depth : Table
  pub done : RouterSet
  pub shape : HasShape routers commits root up depth done

-- A commit that may follow: of s, which isn't the root nor committed, at t, the router above it, with a set X that
-- holds s and lacks t.
pub record Commit (g : Stage) : Type 0 where
  pub s : ℕ
  pub t : ℕ
  pub X : RouterSet
  pub not_root : s ≢ g.root
  pub fresh : g.done s ≡ false
  pub neighbour : g.up s ≡ t
  pub holds : X s ≡ true
  pub lacks : X t ≡ false

-- The commit hangs s from t.
abbrev pub IsPlain : (g : Stage) → Commit g → Type 0
IsPlain g c = swaps g.root g.up c.t c.X ≡ false

-- The commit puts s in the place of t, and t below s.
abbrev pub IsSwap : (g : Stage) → Commit g → Type 0
IsSwap g c = swaps g.root g.up c.t c.X ≡ true

-- What is above each router after the commit.
abbrev pub next_up : (g : Stage) → Commit g → Table
next_up g c = up_after g.root g.up c.s c.t c.X

-- The widths after the commit, with the value k.
abbrev pub next_width : (g : Stage) → Commit g → Table → ℕ → Table
next_width g c width k = width_after g.root g.up width c.s c.t k c.X

-- ---- the routers under one

-- The routers whose way up holds r.
abbrev pub under : Stage → ℕ → RouterSet
under g r = below g.routers g.up r

-- What is under each committed router is a least cut of it from the router above it, and costs its width.
abbrev pub HasCuts : Net → Stage → Table → Type 0
HasCuts net g width = (r : ℕ) → g.done r ≡ true → IsLeastCut net r (g.up r) (under g r) (width r)

-- a way up is at most as long as there are routers
pub short : (g : Stage) (i : ℕ) → g.depth i ≤ g.routers
short g i = omega (arith, g.shape.shallow i, g.shape.room)

-- under r are r and what hangs from a router under r
pub under_is : (g : Stage) (r i : ℕ) → r ≢ g.root → under g r i ≡ ((i == r) || under g r (g.up i))
under_is g r i not_root =
    some_up_is (λ j. j == r) g.root g.up g.depth g.shape.forest (ne_eqb g.root r (λ e. not_root (sym e))) g.routers i
    (short g i)

-- the root is under no other router
pub under-root : (g : Stage) (r : ℕ) → r ≢ g.root → under g r g.root ≡ false
under-root g r not_root =
    some_up-root (λ j. j == r) g.up g.root g.routers g.shape.forest.top (ne_eqb g.root r (λ e. not_root (sym e)))

-- a router is under itself
pub under-self : (g : Stage) (r : ℕ) → r ≢ g.root → under g r r ≡ true
under-self g r not_root = rw (under_is g r r not_root, eq-eqb r r refl) refl

-- no router is under a deeper one
pub under-deeper : (g : Stage) (r i : ℕ) → g.depth i < g.depth r → under g r i ≡ false
under-deeper g r i low =
    some_up-deeper (λ j. j == r) g.root g.up g.depth g.shape.forest (g.depth i) (λ j e. rw (eqb-true j r e) low)
    g.routers i (omega arith)

-- a router that hangs from another is one deeper
pub deeper : (g : Stage) (i : ℕ) → i ≢ g.root → g.depth (g.up i) < g.depth i
deeper g i not_root = omega (arith, g.shape.forest.step i not_root)

-- a committed router isn't the root
pub done-not_root : (g : Stage) (r : ℕ) → g.done r ≡ true → r ≢ g.root
done-not_root g r committed e = false≢true (sym g.shape.root_free ∙ ap g.done (sym e) ∙ committed)

-- a router other than the root from which another hangs is committed
pub above-done : (g : Stage) (i : ℕ) → g.up i ≢ g.root → g.done (g.up i) ≡ true
above-done g i not_root = elim (g.shape.inner i) [ inl e ↦ absurd (not_root e) | inr committed ↦ committed ]

-- ---- a commit's two routers

-- nothing hangs from s
pub none_below-s : (g : Stage) (c : Commit g) (i : ℕ) → g.up i ≢ c.s
none_below-s g c i e = elim (g.shape.inner i) [
  | inl top ↦ c.not_root (sym e ∙ top)
  | inr committed ↦ false≢true (sym c.fresh ∙ (rw e at committed))
]

-- t is committed, where it isn't the root
pub t-done : (g : Stage) (c : Commit g) → c.t ≢ g.root → g.done c.t ≡ true
t-done g c not_root = rw c.neighbour at (above-done g c.s (λ e. not_root (sym c.neighbour ∙ e)))

-- t isn't s
pub t≢s : (g : Stage) (c : Commit g) → c.t ≢ c.s
t≢s g c e = false≢true (sym c.lacks ∙ ap c.X e ∙ c.holds)

-- s is one deeper than t
pub depth-s : (g : Stage) (c : Commit g) → g.depth c.s ≡ suc (g.depth c.t)
depth-s g c = g.shape.forest.step c.s c.not_root ∙ ap (λ (i : ℕ). suc (g.depth i)) c.neighbour

-- s is under t
pub under-t-s : (g : Stage) (c : Commit g) → c.t ≢ g.root → under g c.t c.s ≡ true
under-t-s g c not_root =
    under_is g c.t c.s not_root
    ∙ rw (c.neighbour, under-self g c.t not_root) (grind (arith, cases_Bool (c.s == c.t)))

-- what is under another router that hangs from t lacks s
pub under-hanging-s : (g : Stage) (c : Commit g) (r : ℕ) → r ≢ g.root → r ≢ c.s → g.up r ≡ c.t
    → under g r c.s ≡ false
under-hanging-s g c r not_root not_s hangs =
    rw (under_is g r c.s not_root, ne_eqb c.s r (λ e. not_s (sym e)), c.neighbour)
    (under-deeper g r c.t (omega (arith, deeper g r not_root, ap g.depth hangs)))

-- a commit that swaps has a t other than the root
pub swap-not_root : (g : Stage) (c : Commit g) → IsSwap g c → c.t ≢ g.root
swap-not_root g c swap e = grind (arith, eqb_tells c.t g.root, cases_Bool (c.X (g.up c.t)))

-- whose parent is in X
pub swap-holds : (g : Stage) (c : Commit g) → IsSwap g c → c.X (g.up c.t) ≡ true
swap-holds g c swap = grind (arith, eqb_tells c.t g.root, cases_Bool (c.X (g.up c.t)))

-- and one that doesn't has a parent of t outside X, where t has a parent
pub plain-lacks : (g : Stage) (c : Commit g) → IsPlain g c → c.t ≢ g.root → c.X (g.up c.t) ≡ false
plain-lacks g c plain not_root = grind (arith, eqb_tells c.t g.root, cases_Bool (c.X (g.up c.t)))
