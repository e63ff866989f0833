-- What the calls of a shelf do to the list of records that its holder has seen.
use Rattle.std.specs.Prelude.{◌≡◌, ℕ, ◌+◌, ◌<◌, List, [], ◌∷◌, ◌++◌, Bool, true, length, Some, Result, Ok, Err}
use Rattle.tree_versions.specs.Records.{RecordView, Grows, record_at}
use Rattle.tree_versions.specs.declared.shelf.TheConstants.{MOST_RECORDS}
use Rattle.tree_versions.specs.declared.shelf.PublishFault.{PublishFault}
use Rattle.tree_versions.specs.declared.shelf.PublishFault.TheVariants.{Full, NoMemory}

-- The list may have grown; on a shelf that nobody else has it stays.
pub record Looks (alone : Bool) (old new : List RecordView) : Type 0 where
  pub grows : Grows old new
  pub still : alone ≡ true → new ≡ old

-- The new record stands at a later place than all that was seen, and the list up to it is seen; on a shelf that
-- nobody else has it is the next.
pub record IsPublishedAt (alone : Bool) (old new : List RecordView) (added : RecordView) (version : ℕ) : Type 0 where
  pub grows : Grows old new
  pub later : length old < version
  pub last : length new ≡ version
  pub place : record_at new version ≡ Some added
  pub next : alone ≡ true → new ≡ old ++ added ∷ []

-- As many records are held as can be.
pub record IsFull (alone : Bool) (old new : List RecordView) : Type 0 where
  pub looks : Looks alone old new
  pub full : length new ≡ MOST_RECORDS

-- What publishing a record did to the list, and to the number of records that were published through the shelf.
abbrev pub Publishes : Bool → List RecordView → List RecordView → RecordView → ℕ → ℕ → Result ℕ PublishFault → Type 0
Publishes alone old new added before after (Ok version) =
    IsPublishedAt alone old new added version × (after ≡ before + 1)
Publishes alone old new added before after (Err Full) = IsFull alone old new × (after ≡ before)
Publishes alone old new added before after (Err NoMemory) = Looks alone old new × (after ≡ before)
