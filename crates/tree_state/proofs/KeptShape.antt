-- A commit keeps the shape of the tables.
use Rattle.std.proofs.Common.{◌≡◌, ◌≢◌, ◌⊎◌, inl, inr, ℕ, suc, ◌<◌, ◌≤◌, true, false, sym, ◌∙◌, arith}
use Rattle.std.proofs.lemmas.Bool.{cases_eq}
use Rattle.cut_model.specs.Cuts.{RouterSet}
use Rattle.cut_model.proofs.Counting.{with_number, with_number-same, with_number-other}
use Rattle.tree_state.proofs.Stages.{HasShape, Stage, Commit, IsPlain, IsSwap, next_up, depth-s}
use Rattle.tree_state.proofs.NextTables.{up-mover, up-s, up-other, up-s_swap, up-t_swap, up-other_swap}
use Rattle.tree_state.proofs.Plain
use Rattle.tree_state.proofs.Plain.{plain_depth, plain_depth-s, plain_depth-le, plain_forest}
use Rattle.tree_state.proofs.Swap
use Rattle.tree_state.proofs.Swap.{swap_depth, swap_depth-s, swap_depth-le, swap_forest}

-- The committed routers after the commit.
abbrev pub next_done : (g : Stage) → Commit g → RouterSet
next_done g c = with_number c.s g.done

-- who was committed is so after the commit
next_done-before : (g : Stage) (c : Commit g) (i : ℕ) → g.done i ≡ true → next_done g c i ≡ true
next_done-before g c i committed = elim (cases_eq i c.s) [
  | inl e ↦ rw e (with_number-same c.s g.done)
  | inr not_s ↦ with_number-other c.s g.done i not_s ∙ committed
]

-- and no other than s and these
pub next_done-other : (g : Stage) (c : Commit g) (i : ℕ) → next_done g c i ≡ true → i ≢ c.s → g.done i ≡ true
next_done-other g c i committed not_s = sym (with_number-other c.s g.done i not_s) ∙ committed

-- the root or a router that was committed is the root or committed after the commit
inner-before : (g : Stage) (c : Commit g) (j : ℕ) → (j ≡ g.root) ⊎ (g.done j ≡ true)
    → (j ≡ g.root) ⊎ (next_done g c j ≡ true)
inner-before g c j (inl e) = inl e
inner-before g c j (inr committed) = inr (next_done-before g c j committed)

-- the committed routers are among the routers
next_done-within : (g : Stage) (c : Commit g) → c.s < g.routers → (i : ℕ) → next_done g c i ≡ true → i < g.routers
next_done-within g c s_in i committed = elim (cases_eq i c.s) [
  | inl e ↦ rw e s_in
  | inr not_s ↦ g.shape.within i (next_done-other g c i committed not_s)
]

-- the root stays uncommitted
next_done-root : (g : Stage) (c : Commit g) → next_done g c g.root ≡ false
next_done-root g c = with_number-other c.s g.done g.root (λ e. c.not_root (sym e)) ∙ g.shape.root_free

-- a commit without a swap keeps the shape
pub plain_shape : (g : Stage) (c : Commit g) → IsPlain g c → c.s < g.routers → suc (suc g.commits) ≤ g.routers
    → HasShape g.routers (suc g.commits) g.root (next_up g c) (plain_depth g c) (next_done g c)
plain_shape g c plain s_in room = record {
  forest = plain_forest g c plain;
  inner = λ i. inner i (Plain.kind_of g c i);
  root_free = next_done-root g c;
  within = next_done-within g c s_in;
  shallow = λ i. omega (arith, g.shape.shallow i, plain_depth-le g c i);
  shallow_done = λ i committed. shallow_done i committed (cases_eq i c.s);
  room = room;
}
  where
    inner : (i : ℕ) → Plain.Kind g c i → (next_up g c i ≡ g.root) ⊎ (next_done g c (next_up g c i) ≡ true)
    inner i (Plain.is_s e) = rw (e, up-s g c plain, ← c.neighbour) (inner-before g c (g.up c.s) (g.shape.inner c.s))
    inner i (Plain.moves not_s mover) = inr (rw (up-mover g c i not_s mover) (with_number-same c.s g.done))
    inner i (Plain.stays not_s other) =
        rw (up-other g c i plain not_s other) (inner-before g c (g.up i) (g.shape.inner i))

    shallow_done : (i : ℕ) → next_done g c i ≡ true → (i ≡ c.s) ⊎ (i ≢ c.s) → plain_depth g c i ≤ suc g.commits
    shallow_done i committed (inl e) = rw (e, plain_depth-s g c) (g.shape.shallow c.s)
    shallow_done i committed (inr not_s) =
        omega (arith, g.shape.shallow_done i (next_done-other g c i committed not_s), plain_depth-le g c i)

-- and so does one with a swap
pub swap_shape : (g : Stage) (c : Commit g) → IsSwap g c → c.s < g.routers → suc (suc g.commits) ≤ g.routers
    → HasShape g.routers (suc g.commits) g.root (next_up g c) (swap_depth g c) (next_done g c)
swap_shape g c swap s_in room = record {
  forest = swap_forest g c swap;
  inner = λ i. inner i (Swap.kind_of g c i);
  root_free = next_done-root g c;
  within = next_done-within g c s_in;
  shallow = λ i. omega (arith, g.shape.shallow i, swap_depth-le g c i);
  shallow_done = λ i committed. shallow_done i committed (cases_eq i c.s);
  room = room;
}
  where
    inner : (i : ℕ) → Swap.Kind g c i → (next_up g c i ≡ g.root) ⊎ (next_done g c (next_up g c i) ≡ true)
    inner i (Swap.is_s e) = rw (e, up-s_swap g c swap) (inner-before g c (g.up c.t) (g.shape.inner c.t))
    inner i (Swap.is_t not_s e) = inr (rw (e, up-t_swap g c swap) (with_number-same c.s g.done))
    inner i (Swap.moves not_s not_t mover) = inr (rw (up-mover g c i not_s mover) (with_number-same c.s g.done))
    inner i (Swap.stays not_s not_t other) =
        rw (up-other_swap g c i not_s not_t other) (inner-before g c (g.up i) (g.shape.inner i))

    shallow_done : (i : ℕ) → next_done g c i ≡ true → (i ≡ c.s) ⊎ (i ≢ c.s) → swap_depth g c i ≤ suc g.commits
    shallow_done i committed (inl e) =
        rw (e, swap_depth-s g c) (omega (arith, g.shape.shallow c.s, depth-s g c))
    shallow_done i committed (inr not_s) =
        omega (arith, g.shape.shallow_done i (next_done-other g c i committed not_s), swap_depth-le g c i)
