-- A commit with a swap: s hangs where t hung, t from s, and the movers from s. The new tables are a tree, s has under
-- it what t had, t keeps what doesn't move, and all else is under what it was under.
use Rattle.std.proofs.Common.{◌≡◌, ◌≢◌, inl, inr, ℕ, suc, ◌≤◌, true, false, cond, ◌||◌}
use Rattle.std.proofs.Common.{sym, ◌∙◌, arith, refl}
use Rattle.std.specs.Prelude.{◌==◌}
use Rattle.std.proofs.lemmas.Bool.{cases_Bool, cases_eq, eq-eqb, ne_eqb}
use Rattle.cut_model.specs.Cuts.{RouterSet}
use Rattle.cut_model.specs.Crossing.{◌∖◌}
use Rattle.tree_state.specs.Tables.{Table, below}
use Rattle.tree_state.proofs.Forest.{IsForest, some_up-only}
use Rattle.tree_state.proofs.Stages.{Stage, Commit, IsSwap, next_up, under, under_is, under-root, under-self}
use Rattle.tree_state.proofs.Stages.{under-deeper, deeper, none_below-s, t≢s, depth-s, under-t-s, swap-not_root}
use Rattle.tree_state.proofs.NextTables.{movers, mover-up, up-mover, up-s_swap, up-t_swap, up-other_swap}
use Rattle.tree_state.proofs.Moved.{movers-root, moved, moved_is, moved-mover, moved-s, moved-t}

-- The kinds of router at a commit with a swap: s, t, the other movers, and all that stay.
pub data Kind (g : Stage) (c : Commit g) (i : ℕ) : Type 0 where
  is_s : i ≡ c.s → Kind g c i
  is_t : i ≢ c.s → i ≡ c.t → Kind g c i
  moves : i ≢ c.s → i ≢ c.t → movers g c i ≡ true → Kind g c i
  stays : i ≢ c.s → i ≢ c.t → movers g c i ≡ false → Kind g c i

-- each router is of one kind
pub kind_of : (g : Stage) (c : Commit g) (i : ℕ) → Kind g c i
kind_of g c i = elim (cases_eq i c.s) [
  | inl e ↦ is_s e
  | inr not_s ↦ elim (cases_eq i c.t) [
    | inl e ↦ is_t not_s e
    | inr not_t ↦ elim (cases_Bool (movers g c i)) [
      | inl mover ↦ moves not_s not_t mover
      | inr other ↦ stays not_s not_t other
    ]
  ]
]

-- What t keeps: the routers under it that don't move.
abbrev pub kept : (g : Stage) → Commit g → RouterSet
kept g c = under g c.t ∖ moved g c

-- t keeps itself
kept-t : (g : Stage) (c : Commit g) → IsSwap g c → kept g c c.t ≡ true
kept-t g c swap = rw (under-self g c.t (swap-not_root g c swap), moved-t g c) refl

-- but not its parent
kept-parent : (g : Stage) (c : Commit g) → IsSwap g c → kept g c (g.up c.t) ≡ false
kept-parent g c swap = rw (under-deeper g c.t (g.up c.t) (deeper g c.t (swap-not_root g c swap))) refl

-- nor a mover
kept-mover : (g : Stage) (c : Commit g) (i : ℕ) → movers g c i ≡ true → kept g c i ≡ false
kept-mover g c i mover = grind (arith, moved-mover g c i mover, cases_Bool (under g c.t i))

-- and a router that stays is kept along with the router above it, or neither is
kept_with_up : (g : Stage) (c : Commit g) → IsSwap g c → (i : ℕ) → i ≢ c.t → movers g c i ≡ false
    → kept g c i ≡ kept g c (g.up i)
kept_with_up g c swap i not_t other =
    rw (under_is g c.t i (swap-not_root g c swap), ne_eqb i c.t not_t, moved_is g c i, other) refl

-- ---- depths

-- The depths after the commit: s takes the place of t, and what t keeps lies one deeper.
pub swap_depth : (g : Stage) → Commit g → Table
swap_depth g c i = cond (i == c.s) (g.depth c.t) (cond (kept g c i) (suc (g.depth i)) (g.depth i))

-- s has the depth that t had
pub swap_depth-s : (g : Stage) (c : Commit g) → swap_depth g c c.s ≡ g.depth c.t
unfolding swap_depth
swap_depth-s g c = rw (eq-eqb c.s c.s refl) refl

-- what t keeps lies one deeper
swap_depth-kept : (g : Stage) (c : Commit g) (i : ℕ) → i ≢ c.s → kept g c i ≡ true
    → swap_depth g c i ≡ suc (g.depth i)
unfolding swap_depth
swap_depth-kept g c i not_s keeps = rw (ne_eqb i c.s not_s, keeps) refl

-- all others keep their depth
swap_depth-other : (g : Stage) (c : Commit g) (i : ℕ) → i ≢ c.s → kept g c i ≡ false → swap_depth g c i ≡ g.depth i
unfolding swap_depth
swap_depth-other g c i not_s goes = rw (ne_eqb i c.s not_s, goes) refl

-- no router lies more than one deeper
pub swap_depth-le : (g : Stage) (c : Commit g) (i : ℕ) → swap_depth g c i ≤ suc (g.depth i)
swap_depth-le g c i = elim (cases_eq i c.s) [
  | inl e ↦ rw (e, swap_depth-s g c) (omega (arith, depth-s g c))
  | inr not_s ↦ elim (cases_Bool (kept g c i)) [
    | inl keeps ↦ rw (swap_depth-kept g c i not_s keeps) (omega arith)
    | inr goes ↦ rw (swap_depth-other g c i not_s goes) (omega arith)
  ]
]

-- ---- the tree

-- every way up still ends at the root
pub swap_forest : (g : Stage) (c : Commit g) → IsSwap g c → IsForest g.root (next_up g c) (swap_depth g c)
swap_forest g c swap = record {
  top = up-other_swap g c g.root (λ e. c.not_root (sym e)) (λ e. swap-not_root g c swap (sym e)) (movers-root g c)
      ∙ g.shape.forest.top;
  step = λ i not_root. step i not_root (kind_of g c i);
}
  where
    step : (i : ℕ) → i ≢ g.root → Kind g c i → swap_depth g c i ≡ suc (swap_depth g c (next_up g c i))
    step i not_root (is_s e) =
        rw (
          e,
          up-s_swap g c swap,
          swap_depth-s g c,
          swap_depth-other g c (g.up c.t) (none_below-s g c c.t) (kept-parent g c swap),
        )
        (g.shape.forest.step c.t (swap-not_root g c swap))
    step i not_root (is_t not_s e) =
        rw (e, up-t_swap g c swap, swap_depth-s g c, swap_depth-kept g c c.t (t≢s g c) (kept-t g c swap)) refl
    step i not_root (moves not_s not_t mover) =
        rw (
          up-mover g c i not_s mover,
          swap_depth-s g c,
          swap_depth-other g c i not_s (kept-mover g c i mover),
          ← mover-up g c i mover,
        )
        (g.shape.forest.step i not_root)
    step i not_root (stays not_s not_t other) =
        let both : kept g c i ≡ kept g c (g.up i) = kept_with_up g c swap i not_t other in
        rw (up-other_swap g c i not_s not_t other)
        (elim (cases_Bool (kept g c i)) [
          | inl keeps ↦
              rw (
                swap_depth-kept g c i not_s keeps,
                swap_depth-kept g c (g.up i) (none_below-s g c i) (sym both ∙ keeps),
              )
              (omega (arith, g.shape.forest.step i not_root))
          | inr goes ↦
              rw (
                swap_depth-other g c i not_s goes,
                swap_depth-other g c (g.up i) (none_below-s g c i) (sym both ∙ goes),
              )
              (g.shape.forest.step i not_root)
        ])

-- ---- the routers under one

-- s has under it what t had
pub swap_under-s : (g : Stage) (c : Commit g) → IsSwap g c → ((i : ℕ) → swap_depth g c i ≤ g.routers)
    → below g.routers (next_up g c) c.s ≡ under g c.t
swap_under-s g c swap fits =
    some_up-only (λ j. j == c.s) g.root (next_up g c) (swap_depth g c) (swap_forest g c swap)
    (ne_eqb g.root c.s (λ e. c.not_root (sym e))) g.routers fits (under g c.t) (under-root g c.t t_not_root)
    (λ i _. told i (kind_of g c i))
  where
    t_not_root : c.t ≢ g.root
    t_not_root = swap-not_root g c swap

    s_in : under g c.t c.s ≡ true
    s_in = under-t-s g c t_not_root

    told : (i : ℕ) → Kind g c i → under g c.t i ≡ ((i == c.s) || under g c.t (next_up g c i))
    told i (is_s e) = rw (e, eq-eqb c.s c.s refl, s_in) refl
    told i (is_t not_s e) =
        rw (e, up-t_swap g c swap, ne_eqb c.t c.s (t≢s g c), s_in) (under-self g c.t t_not_root)
    told i (moves not_s not_t mover) =
        rw (
          up-mover g c i not_s mover,
          ne_eqb i c.s not_s,
          s_in,
          under_is g c.t i t_not_root,
          mover-up g c i mover,
          under-self g c.t t_not_root,
        )
        (grind (arith, cases_Bool (i == c.t)))
    told i (stays not_s not_t other) =
        rw (
          up-other_swap g c i not_s not_t other,
          ne_eqb i c.s not_s,
          under_is g c.t i t_not_root,
          ne_eqb i c.t not_t,
        )
        refl

-- t has under it what it keeps
pub swap_under-t : (g : Stage) (c : Commit g) → IsSwap g c → ((i : ℕ) → swap_depth g c i ≤ g.routers)
    → below g.routers (next_up g c) c.t ≡ kept g c
swap_under-t g c swap fits =
    some_up-only (λ j. j == c.t) g.root (next_up g c) (swap_depth g c) (swap_forest g c swap)
    (ne_eqb g.root c.t (λ e. t_not_root (sym e))) g.routers fits (kept g c)
    (rw (under-root g c.t t_not_root) refl) (λ i _. told i (kind_of g c i))
  where
    t_not_root : c.t ≢ g.root
    t_not_root = swap-not_root g c swap

    s_goes : kept g c c.s ≡ false
    s_goes = rw (moved-s g c) (grind (arith, cases_Bool (under g c.t c.s)))

    told : (i : ℕ) → Kind g c i → kept g c i ≡ ((i == c.t) || kept g c (next_up g c i))
    told i (is_s e) =
        rw (e, up-s_swap g c swap, ne_eqb c.s c.t (λ h. t≢s g c (sym h)), kept-parent g c swap, s_goes) refl
    told i (is_t not_s e) = rw (e, eq-eqb c.t c.t refl) (kept-t g c swap)
    told i (moves not_s not_t mover) =
        rw (up-mover g c i not_s mover, ne_eqb i c.t not_t, kept-mover g c i mover, s_goes) refl
    told i (stays not_s not_t other) =
        rw (up-other_swap g c i not_s not_t other, ne_eqb i c.t not_t) (kept_with_up g c swap i not_t other)

-- what is under any other router stays
pub swap_under-other : (g : Stage) (c : Commit g) → IsSwap g c → ((i : ℕ) → swap_depth g c i ≤ g.routers)
    → (r : ℕ) → r ≢ g.root → r ≢ c.s → r ≢ c.t → below g.routers (next_up g c) r ≡ under g r
swap_under-other g c swap fits r not_root not_s not_t =
    some_up-only (λ j. j == r) g.root (next_up g c) (swap_depth g c) (swap_forest g c swap)
    (ne_eqb g.root r (λ e. not_root (sym e))) g.routers fits (under g r) (under-root g r not_root)
    (λ i _. told i (kind_of g c i))
  where
    s_with_t : under g r c.s ≡ under g r c.t
    s_with_t = rw (under_is g r c.s not_root, ne_eqb c.s r (λ e. not_s (sym e)), c.neighbour) refl

    t_with_parent : under g r c.t ≡ under g r (g.up c.t)
    t_with_parent = rw (under_is g r c.t not_root, ne_eqb c.t r (λ e. not_t (sym e))) refl

    told : (i : ℕ) → Kind g c i → under g r i ≡ ((i == r) || under g r (next_up g c i))
    told i (is_s e) =
        rw (e, up-s_swap g c swap, s_with_t, t_with_parent, ne_eqb c.s r (λ h. not_s (sym h))) refl
    told i (is_t _ e) = rw (e, up-t_swap g c swap, s_with_t, ne_eqb c.t r (λ h. not_t (sym h))) refl
    told i (moves not_here _ mover) =
        rw (up-mover g c i not_here mover, s_with_t, ← mover-up g c i mover) (under_is g r i not_root)
    told i (stays not_here not_there other) =
        rw (up-other_swap g c i not_here not_there other) (under_is g r i not_root)
