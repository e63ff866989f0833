-- What publishing a record on a board does.
use Rattle.std.specs.Prelude.{◌≡◌, ℕ, ◌+◌, ◌<◌, List, [], ◌∷◌, ◌++◌, Some, length}
use Rattle.tree_versions.specs.Records.{RecordView, Grows, record_at}
use Rattle.tree_versions.specs.declared.shelf.TheConstants.{MOST_RECORDS}
use Rattle.tree_versions.specs.declared.publisher.BoardFault.{BoardFault}
use Rattle.tree_versions.specs.declared.publisher.BoardFault.TheVariants as fault
use Rattle.tree_versions.specs.declared.publisher.Placed.{Placed}
use Rattle.tree_versions.specs.declared.publisher.Placed.TheVariants as placed

-- A note tells of a new record: its list begins with what was seen, is longer, and has the record at its version,
-- which is the last place.
pub record TellsOf (seen note : List RecordView) (added : RecordView) : Type 0 where
  pub grows : Grows seen note
  pub later : length seen < length note
  pub place : record_at note (length note) ≡ Some added

-- A note tells that the board is full: its list begins with what was seen, and no further record may be held.
pub record TellsFull (seen note : List RecordView) : Type 0 where
  pub grows : Grows seen note
  pub full : length note ≡ MOST_RECORDS

-- Why a record was refused. Want of memory is free.
abbrev pub Refuses : {B : Type 0} → List RecordView → BoardFault B → Type 0
Refuses seen (fault.Full note) = TellsFull seen note
Refuses seen fault.NoMemory = Unit {0}

-- What a step under the lock did with a record for a seat, and with the number of records of that seat.
abbrev pub Places : {B : Type 0} → List RecordView → RecordView → ℕ → ℕ → Placed B → Type 0
Places seen added before after (placed.Added note) = TellsOf seen note added × (after ≡ before + 1)
Places seen added before after (placed.Full note) = TellsFull seen note × (after ≡ before)
Places seen added before after placed.NoMemory = after ≡ before

-- What a step under the lock did to the list that readers may take: the record stands behind it, or it stays. The note
-- tells that list.
abbrev pub Shows : {B : Type 0} → List RecordView → List RecordView → RecordView → Placed B → Type 0
Shows old new added (placed.Added note) = (new ≡ old ++ added ∷ []) × (note ≡ new)
Shows old new added (placed.Full note) = (new ≡ old) × (note ≡ new)
Shows old new added placed.NoMemory = new ≡ old
