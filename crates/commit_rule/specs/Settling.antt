-- What becomes of a cut that is to be committed, and of the tree by that.
use Rattle.std.specs.Prelude.{◌≡◌, ◌≢◌, ℕ, ◌+◌, true, false, ◌==◌, [], ◌∷◌, ◌++◌, slice_index, slice_set}
use Rattle.std.specs.Prelude.{if◌then◌else◌}
use Rattle.cut_model.specs.Held.{CutView}
use Rattle.tree_state.specs.History.{entered, entry_of}
use Rattle.tree_state.specs.Views.{GrowingView, tree_in, up_of}
use Rattle.commit_rule.specs.declared.settling.Settled.{Settled}
use Rattle.commit_rule.specs.declared.settling.Settled.TheVariants.{Committed, Already, Stranger, Moved}

-- The tree with one retake more of s, for which what is above it counts as read.
abbrev pub with_retake : GrowingView → ℕ → GrowingView
with_retake old s = record old {
  last_read = slice_set old.last_read s (up_of (tree_in old) s);
  retakes = slice_set old.retakes s (slice_index old.retakes s + 1);
}

-- The cut is one of another network, and nothing changes.
pub record IsStranger (old : GrowingView) (cut : CutView) (new : GrowingView) : Type 0 where
  pub other : cut.net ≢ old.net
  pub state : new ≡ old

-- The cut's router was committed already, and nothing changes.
pub record IsSettled (old : GrowingView) (cut : CutView) (new : GrowingView) : Type 0 where
  pub same : cut.net ≡ old.net
  pub committed : entered old.history cut.router ≡ true
  pub state : new ≡ old

-- Another router is above the cut's than the one that it is cut from. That is a retake where that other one wasn't
-- read yet, and nothing else changes.
pub record HasMoved (old : GrowingView) (cut : CutView) (new : GrowingView) (from to : ℕ) : Type 0 where
  pub same : cut.net ≡ old.net
  pub fresh : entered old.history cut.router ≡ false
  pub from_is : from ≡ cut.neighbour
  pub to_is : to ≡ up_of (tree_in old) cut.router
  pub differ : from ≢ to
  pub state :
      new ≡ (if to == slice_index old.last_read cut.router then old else with_retake old cut.router)

-- The cut's router isn't committed yet and hangs from the one that it is cut from. The history has one entry more,
-- and nothing else changes.
pub record IsCommitted (old : GrowingView) (cut : CutView) (new : GrowingView) : Type 0 where
  pub same : cut.net ≡ old.net
  pub fresh : entered old.history cut.router ≡ false
  pub stands : cut.neighbour ≡ up_of (tree_in old) cut.router
  pub state : new ≡ record old { history = old.history ++ entry_of cut ∷ [] }

-- What each answer says, which is exactly where it comes.
abbrev pub Settles : GrowingView → CutView → GrowingView → Settled → Type 0
Settles old cut new Stranger = IsStranger old cut new
Settles old cut new Already = IsSettled old cut new
Settles old cut new (Moved from to) = HasMoved old cut new from to
Settles old cut new Committed = IsCommitted old cut new
