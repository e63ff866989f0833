-- A commit without a swap: s hangs from t, and the movers from s. The new tables are a tree, what moved is now under
-- s, and all else is under what it was under.
use Rattle.std.proofs.Common.{◌≡◌, ◌≢◌, inl, inr, ℕ, suc, ◌≤◌, true, false, cond, not, ◌&&◌, ◌||◌}
use Rattle.std.proofs.Common.{sym, ◌∙◌, ap, arith, refl}
use Rattle.std.specs.Prelude.{◌==◌}
use Rattle.std.proofs.lemmas.Bool.{cases_Bool, cases_eq, eq-eqb, ne_eqb}
use Rattle.std.proofs.lemmas.Bool.Decides.{eqb_tells}
use Rattle.tree_state.specs.Tables.{Table, below}
use Rattle.tree_state.proofs.Forest.{IsForest, some_up-only}
use Rattle.tree_state.proofs.Stages.{Stage, Commit, IsPlain, next_up, under, under_is, under-root}
use Rattle.tree_state.proofs.Stages.{none_below-s, depth-s}
use Rattle.tree_state.proofs.NextTables.{movers, mover-up, up-mover, up-s, up-other}
use Rattle.tree_state.proofs.Moved.{movers-root, moved, moved_is, moved-root, moved-mover, moved-s, moved-t}

-- The kinds of router at a commit without a swap: s itself, the other movers, and all that stay.
pub data Kind (g : Stage) (c : Commit g) (i : ℕ) : Type 0 where
  is_s : i ≡ c.s → Kind g c i
  moves : i ≢ c.s → movers g c i ≡ true → Kind g c i
  stays : i ≢ c.s → movers g c i ≡ false → Kind g c i

-- each router is of one kind
pub kind_of : (g : Stage) (c : Commit g) (i : ℕ) → Kind g c i
kind_of g c i = elim (cases_eq i c.s) [
  | inl e ↦ is_s e
  | inr not_s ↦ elim (cases_Bool (movers g c i)) [ inl mover ↦ moves not_s mover | inr other ↦ stays not_s other ]
]

-- ---- depths

-- The depths after the commit: all that move but s lie one deeper.
pub plain_depth : (g : Stage) → Commit g → Table
plain_depth g c i = cond (moved g c i && not (i == c.s)) (suc (g.depth i)) (g.depth i)

-- s keeps its depth
pub plain_depth-s : (g : Stage) (c : Commit g) → plain_depth g c c.s ≡ g.depth c.s
unfolding plain_depth
plain_depth-s g c = grind (arith, eqb_tells c.s c.s, cases_Bool (moved g c c.s))

-- all others that move lie one deeper
plain_depth-moved : (g : Stage) (c : Commit g) (i : ℕ) → i ≢ c.s → moved g c i ≡ true
    → plain_depth g c i ≡ suc (g.depth i)
unfolding plain_depth
plain_depth-moved g c i not_s is_moved = rw (is_moved, ne_eqb i c.s not_s)

-- what doesn't move keeps its depth
plain_depth-other : (g : Stage) (c : Commit g) (i : ℕ) → moved g c i ≡ false → plain_depth g c i ≡ g.depth i
unfolding plain_depth
plain_depth-other g c i not_moved = rw not_moved refl

-- no router lies more than one deeper
pub plain_depth-le : (g : Stage) (c : Commit g) (i : ℕ) → plain_depth g c i ≤ suc (g.depth i)
unfolding plain_depth
plain_depth-le g c i = grind (arith, eqb_tells i c.s, cases_Bool (moved g c i))

-- ---- the tree

-- a router that stays moves along with the router above it, or neither does
stays_with_up : (g : Stage) (c : Commit g) (i : ℕ) → movers g c i ≡ false → moved g c i ≡ moved g c (g.up i)
stays_with_up g c i other = rw (moved_is g c i, other) refl

-- every way up still ends at the root
pub plain_forest : (g : Stage) (c : Commit g) → IsPlain g c → IsForest g.root (next_up g c) (plain_depth g c)
plain_forest g c plain = record {
  top = up-other g c g.root plain (λ e. c.not_root (sym e)) (movers-root g c) ∙ g.shape.forest.top;
  step = λ i not_root. step i not_root (kind_of g c i);
}
  where
    step : (i : ℕ) → i ≢ g.root → Kind g c i → plain_depth g c i ≡ suc (plain_depth g c (next_up g c i))
    step i not_root (is_s e) =
        rw (e, up-s g c plain, plain_depth-s g c, plain_depth-other g c c.t (moved-t g c)) (depth-s g c)
    step i not_root (moves not_s mover) =
        rw (up-mover g c i not_s mover, plain_depth-s g c, plain_depth-moved g c i not_s (moved-mover g c i mover))
        (omega (arith, g.shape.forest.step i not_root, depth-s g c, ap g.depth (mover-up g c i mover)))
    step i not_root (stays not_s other) =
        let both : moved g c i ≡ moved g c (g.up i) = stays_with_up g c i other in
        rw (up-other g c i plain not_s other)
        (elim (cases_Bool (moved g c i)) [
          | inl is_moved ↦
              rw (
                plain_depth-moved g c i not_s is_moved,
                plain_depth-moved g c (g.up i) (none_below-s g c i) (sym both ∙ is_moved),
              )
              (omega (arith, g.shape.forest.step i not_root))
          | inr not_moved ↦
              rw (plain_depth-other g c i not_moved, plain_depth-other g c (g.up i) (sym both ∙ not_moved))
              (g.shape.forest.step i not_root)
        ])

-- ---- the routers under one

-- what moved is now under s
pub plain_under-s : (g : Stage) (c : Commit g) → IsPlain g c → ((i : ℕ) → plain_depth g c i ≤ g.routers)
    → below g.routers (next_up g c) c.s ≡ moved g c
plain_under-s g c plain fits =
    some_up-only (λ j. j == c.s) g.root (next_up g c) (plain_depth g c) (plain_forest g c plain)
    (ne_eqb g.root c.s (λ e. c.not_root (sym e))) g.routers fits (moved g c) (moved-root g c)
    (λ i not_root. told i (kind_of g c i))
  where
    told : (i : ℕ) → Kind g c i → moved g c i ≡ ((i == c.s) || moved g c (next_up g c i))
    told i (is_s e) = rw (e, eq-eqb c.s c.s refl) (moved-s g c)
    told i (moves not_s mover) =
        rw (up-mover g c i not_s mover, moved-mover g c i mover, ne_eqb i c.s not_s) (sym (moved-s g c))
    told i (stays not_s other) =
        rw (up-other g c i plain not_s other, ne_eqb i c.s not_s, moved_is g c i, other) refl

-- what is under any other router stays
pub plain_under-other : (g : Stage) (c : Commit g) → IsPlain g c → ((i : ℕ) → plain_depth g c i ≤ g.routers)
    → (r : ℕ) → r ≢ g.root → r ≢ c.s → below g.routers (next_up g c) r ≡ under g r
plain_under-other g c plain fits r not_root not_s =
    some_up-only (λ j. j == r) g.root (next_up g c) (plain_depth g c) (plain_forest g c plain)
    (ne_eqb g.root r (λ e. not_root (sym e))) g.routers fits (under g r) (under-root g r not_root)
    (λ i _. told i (kind_of g c i))
  where
    s_with_t : under g r c.s ≡ under g r c.t
    s_with_t = rw (under_is g r c.s not_root, ne_eqb c.s r (λ e. not_s (sym e)), c.neighbour) refl

    told : (i : ℕ) → Kind g c i → under g r i ≡ ((i == r) || under g r (next_up g c i))
    told i (is_s e) = rw (e, up-s g c plain, ← c.neighbour) (under_is g r c.s not_root)
    told i (moves not_here mover) =
        rw (up-mover g c i not_here mover, s_with_t, ← mover-up g c i mover) (under_is g r i not_root)
    told i (stays not_here other) = rw (up-other g c i plain not_here other) (under_is g r i not_root)
