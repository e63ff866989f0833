-- What a commit writes into the two tables, router by router.
use Rattle.std.proofs.Common.{◌≡◌, ◌≢◌, ◌⊎◌, inl, inr, ℕ, ◌⊎◌, true, false, ◌&&◌, refl, arith}
use Rattle.std.specs.Prelude.{◌==◌}
use Rattle.std.proofs.lemmas.Bool.{cases_Bool, eq-eqb, ne_eqb}
use Rattle.std.proofs.lemmas.Bool.Decides.{eqb_tells}
use Rattle.cut_model.specs.Cuts.{RouterSet}
use Rattle.tree_state.specs.Tables.{Table, swaps, up_after, width_after}
use Rattle.tree_state.proofs.Stages.{Stage, Commit, IsPlain, IsSwap, next_up, next_width, t≢s}

-- The movers of a commit: s, and the other routers of X that hang from t. The commit hangs these from s.
pub movers : (g : Stage) → Commit g → RouterSet
movers g c i = c.X i && (g.up i == c.t)

-- a mover is in X
pub mover-in : (g : Stage) (c : Commit g) (i : ℕ) → movers g c i ≡ true → c.X i ≡ true
unfolding movers
mover-in g c i mover = grind (arith, cases_Bool (c.X i))

-- and hangs from t
pub mover-up : (g : Stage) (c : Commit g) (i : ℕ) → movers g c i ≡ true → g.up i ≡ c.t
unfolding movers
mover-up g c i mover = grind (arith, cases_Bool (c.X i), eqb_tells (g.up i) c.t)

-- what hangs from t moves where it is in X
pub movers-below-t : (g : Stage) (c : Commit g) (i : ℕ) → g.up i ≡ c.t → movers g c i ≡ c.X i
unfolding movers
movers-below-t g c i hangs = rw (hangs, eq-eqb c.t c.t refl) (grind (arith, cases_Bool (c.X i)))

-- and nothing else moves
pub movers-none : (g : Stage) (c : Commit g) (i : ℕ) → (g.up i ≢ c.t) ⊎ (c.X i ≡ false) → movers g c i ≡ false
unfolding movers
movers-none g c i (inl elsewhere) = rw (ne_eqb (g.up i) c.t elsewhere) (grind (arith, cases_Bool (c.X i)))
movers-none g c i (inr out) = rw out refl

-- ---- the routers above

-- a mover other than s hangs from s
pub up-mover : (g : Stage) (c : Commit g) (i : ℕ) → i ≢ c.s → movers g c i ≡ true → next_up g c i ≡ c.s
unfolding movers up_after
up-mover g c i not_s mover =
    let lacks : c.X c.t ≡ false = c.lacks in
    grind (
      arith,
      eqb_tells i c.s,
      eqb_tells i c.t,
      cases_Bool (c.X i),
      cases_Bool (swaps g.root g.up c.t c.X),
      eqb_tells (g.up i) c.t,
    )

-- without a swap, s hangs from t
pub up-s : (g : Stage) (c : Commit g) → IsPlain g c → next_up g c c.s ≡ c.t
unfolding up_after
up-s g c plain = rw (eq-eqb c.s c.s refl, plain)

-- and all others hang as before
pub up-other : (g : Stage) (c : Commit g) (i : ℕ) → IsPlain g c → i ≢ c.s → movers g c i ≡ false
    → next_up g c i ≡ g.up i
unfolding movers up_after
up-other g c i plain not_s stays =
    grind (arith, eqb_tells i c.s, eqb_tells i c.t, cases_Bool (c.X i), eqb_tells (g.up i) c.t)

-- with a swap, s hangs where t hung
pub up-s_swap : (g : Stage) (c : Commit g) → IsSwap g c → next_up g c c.s ≡ g.up c.t
unfolding up_after
up-s_swap g c swap = rw (eq-eqb c.s c.s refl, swap)

-- t hangs from s
pub up-t_swap : (g : Stage) (c : Commit g) → IsSwap g c → next_up g c c.t ≡ c.s
unfolding up_after
up-t_swap g c swap = rw (ne_eqb c.t c.s (t≢s g c), eq-eqb c.t c.t refl, swap)

-- and all others hang as before
pub up-other_swap : (g : Stage) (c : Commit g) (i : ℕ) → i ≢ c.s → i ≢ c.t → movers g c i ≡ false
    → next_up g c i ≡ g.up i
unfolding movers up_after
up-other_swap g c i not_s not_t stays =
    grind (arith, eqb_tells i c.s, eqb_tells i c.t, cases_Bool (c.X i), eqb_tells (g.up i) c.t)

-- ---- the widths

-- without a swap, s gets the value
pub width-s : (g : Stage) (c : Commit g) (width : Table) (k : ℕ) → IsPlain g c → next_width g c width k c.s ≡ k
unfolding width_after
width-s g c width k plain = rw (eq-eqb c.s c.s refl, plain)

-- and all others keep their width
pub width-other : (g : Stage) (c : Commit g) (width : Table) (k i : ℕ) → IsPlain g c → i ≢ c.s
    → next_width g c width k i ≡ width i
unfolding width_after
width-other g c width k i plain not_s = rw (ne_eqb i c.s not_s, plain) (grind (arith, cases_Bool (i == c.t)))

-- with a swap, s takes over the width of t
pub width-s_swap : (g : Stage) (c : Commit g) (width : Table) (k : ℕ) → IsSwap g c
    → next_width g c width k c.s ≡ width c.t
unfolding width_after
width-s_swap g c width k swap = rw (eq-eqb c.s c.s refl, swap)

-- t gets the value
pub width-t_swap : (g : Stage) (c : Commit g) (width : Table) (k : ℕ) → IsSwap g c → next_width g c width k c.t ≡ k
unfolding width_after
width-t_swap g c width k swap = rw (ne_eqb c.t c.s (t≢s g c), eq-eqb c.t c.t refl, swap)

-- and all others keep their width
pub width-other_swap : (g : Stage) (c : Commit g) (width : Table) (k i : ℕ) → i ≢ c.s → i ≢ c.t
    → next_width g c width k i ≡ width i
unfolding width_after
width-other_swap g c width k i not_s not_t = rw (ne_eqb i c.s not_s, ne_eqb i c.t not_t) refl
