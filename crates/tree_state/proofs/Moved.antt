-- The routers that a commit moves: its movers, and all that is under them.
use Rattle.std.proofs.Common.{◌≡◌, ◌≢◌, ◌⊎◌, inl, inr, ℕ, ◌<◌, true, false, ◌||◌, sym, ◌∙◌, ap, arith, refl}
use Rattle.std.proofs.lemmas.Bool.{cases_Bool, cases_eq, false≢true}
use Rattle.cut_model.specs.Cuts.{RouterSet}
use Rattle.tree_state.specs.Tables.{some_up}
use Rattle.tree_state.proofs.Forest.{some_up-root, some_up_is, some_up-only, some_up-deeper}
use Rattle.tree_state.proofs.Stages.{Stage, Commit, short}
use Rattle.tree_state.proofs.NextTables.{movers, mover-in, mover-up, movers-below-t}

-- The routers whose way up meets a mover.
pub moved : (g : Stage) → Commit g → RouterSet
moved g c = some_up (movers g c) g.up g.routers

-- the root is no mover
pub movers-root : (g : Stage) (c : Commit g) → movers g c g.root ≡ false
movers-root g c =
    grind (arith, cases_Bool (movers g c g.root), mover-in g c g.root, mover-up g c g.root, g.shape.forest.top, c.lacks)

-- what moves are the movers and what hangs from a router that moves
pub moved_is : (g : Stage) (c : Commit g) (i : ℕ) → moved g c i ≡ (movers g c i || moved g c (g.up i))
unfolding moved
moved_is g c i =
    some_up_is (movers g c) g.root g.up g.depth g.shape.forest (movers-root g c) g.routers i (short g i)

-- the root doesn't move
pub moved-root : (g : Stage) (c : Commit g) → moved g c g.root ≡ false
unfolding moved
moved-root g c = some_up-root (movers g c) g.up g.root g.routers g.shape.forest.top (movers-root g c)

-- a mover moves
pub moved-mover : (g : Stage) (c : Commit g) (i : ℕ) → movers g c i ≡ true → moved g c i ≡ true
moved-mover g c i mover = rw (moved_is g c i, mover) refl

-- s moves
pub moved-s : (g : Stage) (c : Commit g) → moved g c c.s ≡ true
moved-s g c = moved-mover g c c.s (movers-below-t g c c.s c.neighbour ∙ c.holds)

-- t doesn't, since each mover lies deeper
pub moved-t : (g : Stage) (c : Commit g) → moved g c c.t ≡ false
unfolding moved
moved-t g c =
    some_up-deeper (movers g c) g.root g.up g.depth g.shape.forest (g.depth c.t)
    (λ i mover. mover-deeper i mover (cases_eq i g.root)) g.routers c.t (omega arith)
  where
    mover-deeper : (i : ℕ) → movers g c i ≡ true → (i ≡ g.root) ⊎ (i ≢ g.root) → g.depth c.t < g.depth i
    mover-deeper i mover (inl e) = absurd (false≢true (sym (movers-root g c) ∙ ap (movers g c) (sym e) ∙ mover))
    mover-deeper i mover (inr ne) =
        let e : g.up i ≡ c.t = mover-up g c i mover in omega (arith, g.shape.forest.step i ne, ap g.depth e)

-- a set that is told in the same way is the set of the routers that move
pub moved-only : (g : Stage) (c : Commit g) (B : RouterSet) → B g.root ≡ false
    → ((i : ℕ) → i ≢ g.root → B i ≡ (movers g c i || B (g.up i))) → moved g c ≡ B
unfolding moved
moved-only g c B B_lacks B_is =
    some_up-only (movers g c) g.root g.up g.depth g.shape.forest (movers-root g c) g.routers (short g) B B_lacks B_is
