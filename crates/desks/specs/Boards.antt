-- What desks that share a board do with doors.
use Rattle.std.specs.Prelude.{◌≡◌, ℕ, List, drop, length, take}
use Rattle.desks.specs.Doors.{AreServed, DoorView, Round}
use Rattle.tree_versions.specs.Records.{RecordView}

-- The first doors were served over these records, and the other doors are as they were. The networks that the clients
-- loaded are as many as the records.
pub record DoorsServed (quota count : ℕ) (records : List RecordView) (round : Round DoorView) : Type 0 where
  pub served : AreServed records quota (take count round.olds) (take count round.news) round.end (length records)
  pub others : drop count round.news ≡ drop count round.olds
