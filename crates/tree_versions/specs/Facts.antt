-- That records are finished, and their trees cut trees, and what is so of a shelf, are facts: each has one proof at
-- most.
use Rattle.std.proofs.Common.{List, [], ◌∷◌, ◌++◌}
use Rattle.std.proofs.Props.{props}
use Rattle.cut_model.specs.Net.{Net}
use Rattle.tree_state.specs.History.{IsLegalAfter, IsComplete}
use Rattle.tree_state.specs.declared.entry.Entry.{Entry}
use Rattle.tree_versions.specs.Records.{RecordView, AreFinished, AreCutTrees}
use Rattle.tree_versions.specs.Solo.{IsSoundShelf}

-- That a history is legal is a fact.
legal_is_fact : (net : Net) (before history : List Entry) → IsProp (IsLegalAfter net before history)
unfolding IsLegalAfter
legal_is_fact net before [] = Prim.hlevel props
legal_is_fact net before (entry ∷ rest) = Prim.hlevel (props, legal_is_fact net (before ++ entry ∷ []) rest)

-- That a history is complete is a fact.
complete_is_fact : (net : Net) (history : List Entry) → IsProp (IsComplete net history)
complete_is_fact net history = Prim.hlevel (props, legal_is_fact net [] history)

-- That records are finished is a fact.
pub finished_is_fact : (records : List RecordView) → IsProp (AreFinished records)
finished_is_fact records = Prim.hlevel (props, complete_is_fact)

-- That the trees of records are cut trees is a fact.
pub trees_are_fact : (records : List RecordView) → IsProp (AreCutTrees records)
trees_are_fact records = Prim.hlevel props

-- What is so of the records of a shelf is a fact.
pub sound_shelf_is_fact : (records : List RecordView) → IsProp (IsSoundShelf records)
sound_shelf_is_fact records = Prim.hlevel (props, finished_is_fact records, trees_are_fact records)
