-- Records: networks that were published, each with the run that made its tree.
use Rattle.std.specs.Prelude.{◌≡◌, ℕ, zero, suc, List, ◌++◌, slice_get, All, None}
use Rattle.std.specs.declared.option.Option.{Option}
use Rattle.cut_model.specs.Net.{Net}
use Rattle.network_text.specs.Sheets.{SheetView}
use Rattle.path_minimum.specs.Ladders.{IsLadderOf, LadderView}
use Rattle.tree_state.specs.Views.{TreeView, HoldsCutTree}
use Rattle.tree_state.specs.History.{IsComplete}
use Rattle.tree_state.specs.declared.entry.Entry.{Entry}

-- A record is a sheet, and the history of the run over its network, the oldest entry first.
pub record RecordView : Type 0 where
  pub sheet : SheetView
  pub history : List Entry

-- The tree of a record: that of its history over its own network.
abbrev pub tree_of : RecordView → TreeView
tree_of seen = record { net = seen.sheet.net; history = seen.history }

-- A network, a finished tree and a ladder belong together: the tree is one of this network, with a complete run and
-- least cuts, and the ladder was made for it.
pub record BelongTogether (net : Net) (tree : TreeView) (ladder : LadderView) : Type 0 where
  pub same : tree.net ≡ net
  pub complete : IsComplete tree.net tree.history
  pub cuts : HoldsCutTree tree
  pub made : IsLadderOf tree ladder

-- Each record holds a complete history of its own network.
abbrev pub AreFinished : List RecordView → Type 0
AreFinished records = All (λ (r : RecordView). IsComplete r.sheet.net r.history) records

-- The tree of each record is a cut tree of its own network.
abbrev pub AreCutTrees : List RecordView → Type 0
AreCutTrees records = All (λ (r : RecordView). HoldsCutTree (tree_of r)) records

-- The record of a version: they are counted from 1, and version 0 has none.
abbrev pub record_at : List RecordView → ℕ → Option RecordView
record_at records zero = None
record_at records (suc version) = slice_get records version

-- More records stand at the end.
abbrev pub Grows : List RecordView → List RecordView → Type 0
Grows old new = (more : List RecordView) × (new ≡ old ++ more)
