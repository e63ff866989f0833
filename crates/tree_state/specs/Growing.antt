-- What the type of a growing tree keeps.
use Rattle.std.specs.Prelude.{◌≡◌, ◌≢◌, ℕ, ◌+◌, ◌<◌, ◌≤◌, Bool, false}
use Rattle.std.specs.Prelude.{List, [], length, replicate, slice_index, slice_index_or}
use Rattle.cut_model.specs.declared.network.TheConstants.{MOST_ROUTERS}
use Rattle.cut_model.specs.Net.{Net, IsInLimits}
use Rattle.cut_model.specs.Terminals.{root_of}
use Rattle.tree_state.specs.declared.entry.Entry.{Entry}
use Rattle.tree_state.specs.History.{tables, entered, IsLegal}
use Rattle.tree_state.specs.Moves.{moves}
use Rattle.tree_state.specs.Views.{GrowingView}

-- The tree of a network before any commit: the root was last read for each router, and none has a retake.
abbrev pub bare_growing : Net → GrowingView
bare_growing net = record {
  net = net;
  history = [];
  last_read = replicate net.routers (root_of net);
  retakes = replicate net.routers 0;
}

-- The history is legal, and the lists have for each router what its tables say, and whether it is entered.
pub record IsGrown (net : Net) (up width : List ℕ) (done : List Bool) (history : List Entry) : Type 0 where
  pub ups : length up ≡ net.routers
  pub widths : length width ≡ net.routers
  pub marks : length done ≡ net.routers
  pub up_is : (i : ℕ) → i < net.routers → slice_index up i ≡ (tables (root_of net) history).up i
  pub width_is : (i : ℕ) → i < net.routers → slice_index width i ≡ (tables (root_of net) history).width i
  pub done_is : (i : ℕ) → i < net.routers → slice_index_or done i false ≡ entered history i
  pub legal : IsLegal net history

-- A router has no more retakes than moves. Where it isn't entered, and hangs from another router than the one that was
-- last read for it, it has fewer.
pub record CountsRetakes (net : Net) (history : List Entry) (last_read retakes : List ℕ) : Type 0 where
  pub reads : length last_read ≡ net.routers
  pub counts : length retakes ≡ net.routers
  pub most :
      (s : ℕ) → s < net.routers → slice_index retakes s ≤ moves (root_of net) history s
  pub moved :
      (s : ℕ) → s < net.routers → entered history s ≡ false →
      (tables (root_of net) history).up s ≢ slice_index last_read s →
      slice_index retakes s + 1 ≤ moves (root_of net) history s

-- There is room for the largest network, and the network is within the limits.
pub record HasRoom (net : Net) (up width history last_read retakes : ℕ) : Type 0 where
  pub limits : IsInLimits net
  pub up_room : MOST_ROUTERS ≤ up
  pub width_room : MOST_ROUTERS ≤ width
  pub history_room : MOST_ROUTERS ≤ history
  pub reads_room : MOST_ROUTERS ≤ last_read
  pub retakes_room : MOST_ROUTERS ≤ retakes
