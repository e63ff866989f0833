-- The records of a shelf that nobody else has.
use Rattle.std.specs.Prelude.{◌≤◌, List, length, map}
use Rattle.std.specs.Arc.{arc_value}
use Rattle.std.specs.declared.sync.Arc.{Arc}
use Rattle.std.specs.declared.alloc.Global.{Global}
use Rattle.tree_versions.specs.declared.shelf.TheConstants.{MOST_RECORDS}
use Rattle.tree_versions.specs.Records.{RecordView, AreCutTrees, AreFinished}

-- What kept records show, in their order.
abbrev pub views_of : List (Arc RecordView Global) → List RecordView
views_of records = map (λ (r : Arc RecordView Global). arc_value r) records

-- What is so of the records of each shelf: there are few, each holds a finished run over its own network, and its tree
-- is a cut tree.
pub record IsSoundShelf (records : List RecordView) : Type 0 where
  pub few : length records ≤ MOST_RECORDS
  pub runs : AreFinished records
  pub trees : AreCutTrees records

-- A shelf of one holder: its records, version 1 first, with what is so of them.
pub record SoloView : Type 0 where
  pub records : List RecordView
  pub sound : IsSoundShelf records
