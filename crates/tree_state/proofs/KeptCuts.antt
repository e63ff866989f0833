-- A commit keeps the tree half built: what is under each committed router is a least cut of it again.
use Rattle.std.proofs.Common.{◌≡◌, ◌≢◌, ℕ, suc, ◌<◌, ◌≤◌, true, arith}
use Rattle.cut_model.specs.Net.{Net}
use Rattle.cut_model.specs.Cuts.{IsLeastCut}
use Rattle.tree_state.specs.Tables.{Table, below}
use Rattle.tree_state.proofs.Stages.{Stage, Commit, HasCuts, IsPlain, IsSwap, next_up, next_width, done-not_root}
use Rattle.tree_state.proofs.Stages.{t-done, under, under-t-s, under-hanging-s, swap-not_root, swap-holds}
use Rattle.tree_state.proofs.NextTables.{movers, mover-in, mover-up, up-mover, up-s, up-other, up-s_swap, up-t_swap}
use Rattle.tree_state.proofs.NextTables.{up-other_swap, width-s, width-other, width-s_swap, width-t_swap}
use Rattle.tree_state.proofs.NextTables.{width-other_swap}
use Rattle.tree_state.proofs.Plain
use Rattle.tree_state.proofs.Plain.{plain_depth, plain_under-s, plain_under-other}
use Rattle.tree_state.proofs.Swap
use Rattle.tree_state.proofs.Swap.{swap_depth, swap_under-s, swap_under-t, swap_under-other}
use Rattle.tree_state.proofs.NewCuts.{cut-moved, cut-kept, cut-hangs_from_s, cut-takes_over}
use Rattle.tree_state.proofs.KeptShape.{next_done, next_done-other, plain_shape, swap_shape}

-- The tree after a commit without a swap.
abbrev pub plain_stage : (g : Stage) (c : Commit g) → IsPlain g c → c.s < g.routers
    → suc (suc g.commits) ≤ g.routers → Stage
plain_stage g c plain s_in room = record {
  routers = g.routers;
  commits = suc g.commits;
  root = g.root;
  up = next_up g c;
  depth = plain_depth g c;
  done = next_done g c;
  shape = plain_shape g c plain s_in room;
}

-- The tree after a commit with a swap.
abbrev pub swap_stage : (g : Stage) (c : Commit g) → IsSwap g c → c.s < g.routers
    → suc (suc g.commits) ≤ g.routers → Stage
swap_stage g c swap s_in room = record {
  routers = g.routers;
  commits = suc g.commits;
  root = g.root;
  up = next_up g c;
  depth = swap_depth g c;
  done = next_done g c;
  shape = swap_shape g c swap s_in room;
}

-- a committed mover keeps its cut, which now parts it from s
cut-mover : (net : Net) (g : Stage) (c : Commit g) (width : Table) → HasCuts net g width → (k : ℕ)
    → IsLeastCut net c.s c.t c.X k → (r : ℕ) → g.done r ≡ true → r ≢ c.s → movers g c r ≡ true
    → IsLeastCut net r c.s (under g r) (width r)
cut-mover net g c width cuts k cut r committed not_s mover =
    cut-hangs_from_s net c.s c.t r k (width r) c.X (under g r) cut (rw (mover-up g c r mover) at (cuts r committed))
    (mover-in g c r mover) (under-hanging-s g c r (done-not_root g r committed) not_s (mover-up g c r mover))

-- without a swap, s gets its cut, and all others keep theirs
pub plain_cuts : (net : Net) (g : Stage) (c : Commit g) (width : Table) → HasCuts net g width
    → (plain : IsPlain g c) (k : ℕ) → IsLeastCut net c.s c.t c.X k → (s_in : c.s < g.routers)
    (room : suc (suc g.commits) ≤ g.routers)
    → HasCuts net (plain_stage g c plain s_in room) (next_width g c width k)
plain_cuts net g c width cuts plain k cut s_in room =
    λ r committed. new_cut r committed (Plain.kind_of g c r)
  where
    fits : (i : ℕ) → plain_depth g c i ≤ g.routers
    fits i = omega (arith, (plain_shape g c plain s_in room).shallow i, room)

    new_cut : (r : ℕ) → next_done g c r ≡ true → Plain.Kind g c r
        → IsLeastCut net r (next_up g c r) (below g.routers (next_up g c) r) (next_width g c width k r)
    new_cut r committed (Plain.is_s e) =
        rw (e, up-s g c plain, plain_under-s g c plain fits, width-s g c width k plain)
        (cut-moved net g c width cuts plain k cut)
    new_cut r committed (Plain.moves not_s mover) =
        let before : g.done r ≡ true = next_done-other g c r committed not_s in
        rw (
          up-mover g c r not_s mover,
          plain_under-other g c plain fits r (done-not_root g r before) not_s,
          width-other g c width k r plain not_s,
        )
        (cut-mover net g c width cuts k cut r before not_s mover)
    new_cut r committed (Plain.stays not_s other) =
        let before : g.done r ≡ true = next_done-other g c r committed not_s in
        rw (
          up-other g c r plain not_s other,
          plain_under-other g c plain fits r (done-not_root g r before) not_s,
          width-other g c width k r plain not_s,
        )
        (cuts r before)

-- with a swap, s takes over the cut of t, t gets a new one, and all others keep theirs
pub swap_cuts : (net : Net) (g : Stage) (c : Commit g) (width : Table) → HasCuts net g width
    → (swap : IsSwap g c) (k : ℕ) → IsLeastCut net c.s c.t c.X k → (s_in : c.s < g.routers)
    (room : suc (suc g.commits) ≤ g.routers)
    → HasCuts net (swap_stage g c swap s_in room) (next_width g c width k)
swap_cuts net g c width cuts swap k cut s_in room =
    λ r committed. new_cut r committed (Swap.kind_of g c r)
  where
    fits : (i : ℕ) → swap_depth g c i ≤ g.routers
    fits i = omega (arith, (swap_shape g c swap s_in room).shallow i, room)

    t_not_root : c.t ≢ g.root
    t_not_root = swap-not_root g c swap

    new_cut : (r : ℕ) → next_done g c r ≡ true → Swap.Kind g c r
        → IsLeastCut net r (next_up g c r) (below g.routers (next_up g c) r) (next_width g c width k r)
    new_cut r committed (Swap.is_s e) =
        rw (e, up-s_swap g c swap, swap_under-s g c swap fits, width-s_swap g c width k swap)
        (cut-takes_over net c.s c.t (g.up c.t) k (width c.t) c.X (under g c.t) cut
        (cuts c.t (t-done g c t_not_root)) (swap-holds g c swap) (under-t-s g c t_not_root))
    new_cut r committed (Swap.is_t not_s e) =
        rw (e, up-t_swap g c swap, swap_under-t g c swap fits, width-t_swap g c width k swap)
        (cut-kept net g c width cuts swap k cut)
    new_cut r committed (Swap.moves not_s not_t mover) =
        let before : g.done r ≡ true = next_done-other g c r committed not_s in
        rw (
          up-mover g c r not_s mover,
          swap_under-other g c swap fits r (done-not_root g r before) not_s not_t,
          width-other_swap g c width k r not_s not_t,
        )
        (cut-mover net g c width cuts k cut r before not_s mover)
    new_cut r committed (Swap.stays not_s not_t other) =
        let before : g.done r ≡ true = next_done-other g c r committed not_s in
        rw (
          up-other_swap g c r not_s not_t other,
          swap_under-other g c swap fits r (done-not_root g r before) not_s not_t,
          width-other_swap g c width k r not_s not_t,
        )
        (cuts r before)
