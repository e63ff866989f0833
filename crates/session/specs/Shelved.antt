-- What the holder of a shelf has seen of it.
use Rattle.std.specs.Prelude.{◌≡◌, ℕ, ◌≤◌, List, Bool, length}
use Rattle.tree_versions.specs.Records.{RecordView}
use Rattle.tree_versions.specs.Shelves.{Looks}
use Rattle.tree_versions.specs.declared.shelf.Shelf.{Ghosts}
use Rattle.tree_versions.specs.declared.shelf.TheConstants.{MOST_RECORDS}

-- The records that a holder has seen, and how many it published.
pub record Shelved : Type 0 where
  pub seen : List RecordView
  pub published : ℕ

-- those of a shelf
abbrev pub shelved : {S : Type 0} → Ghosts S → S → Shelved
shelved g shelf = record { seen = g.seen shelf; published = g.published shelf }

-- The holder looked at the list, and published nothing.
pub record IsLook (alone : Bool) (old new : Shelved) : Type 0 where
  pub looks : Looks alone old.seen new.seen
  pub kept : new.published ≡ old.published
  pub few : length new.seen ≤ MOST_RECORDS
