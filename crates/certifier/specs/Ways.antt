-- Ways up in a list that tells the router above each, and which routers are below a given one.
use Rattle.std.specs.Prelude.{◌≡◌, ℕ, ◌<◌, ◌≤◌, Bool, true, ◌&&◌, List, length, slice_index}
use Rattle.std.specs.List.{list_all, range_with_len}
use Rattle.cut_model.specs.Cuts.{set_of}
use Rattle.cut_model.specs.declared.network.TheConstants.{MOST_ROUTERS}
use Rattle.tree_state.specs.Tables.{below}

-- A list has for each router the one above it.
pub record AreRouters (up : List ℕ) : Type 0 where
  pub few : length up ≤ MOST_ROUTERS
  pub within : (r : ℕ) → r < length up → slice_index up r < length up

-- The way up of each router comes to the root.
abbrev pub all_come_to : ℕ → List ℕ → Bool
all_come_to root up = list_all (below (length up) (slice_index up) root) (range_with_len 0 (length up))

-- The routers hang from a root, which hangs from itself.
pub record HangFrom (root : ℕ) (up : List ℕ) : Type 0 where
  pub routers : AreRouters up
  pub root_is : root < length up
  pub top : slice_index up root ≡ root
  pub meets : (r : ℕ) → r < length up → below (length up) (slice_index up) root r ≡ true

-- Two lists with a truth value for each router that hangs from a root: the decided routers, the root among them, and
-- those inside.
pub record AreMarks (up : List ℕ) (decided inside : List Bool) : Type 0 where
  pub root : ℕ
  pub hang : HangFrom root up
  pub decided_size : length decided ≡ length up
  pub inside_size : length inside ≡ length up
  pub at_root : set_of decided root ≡ true

-- Router c is decided, and inside are just the decided routers that are below it.
pub record AreDecidedFor (up : List ℕ) (c : ℕ) (decided inside : List Bool) : Type 0 where
  pub child : set_of decided c ≡ true
  pub inside_is :
      (r : ℕ) → r < length up →
      set_of inside r ≡ (set_of decided r && below (length up) (slice_index up) c r)
