-- Boards: lists of records that several seats share.
use Rattle.std.specs.Prelude.{◌≡◌, ℕ, ◌+◌, List, [], cond, length, nat_eq}
use Rattle.tree_versions.specs.Records.{RecordView, Grows}

-- A seat has seen some records of its board, and so many were published for it.
pub record SeatView : Type 0 where
  pub seen : List RecordView
  pub own : ℕ

-- A seat is new: it has seen nothing, and nothing was published for it.
pub record IsNew (seat : SeatView) : Type 0 where
  pub unseen : seat.seen ≡ []
  pub own : seat.own ≡ 0

-- A list begins with what was seen.
pub record IsFrontOf (whole seen : List RecordView) : Type 0 where
  pub grows : Grows seen whole

-- What an addition makes of a list: the list that comes with it, where that is longer by one.
abbrev pub with_addition : List RecordView → List RecordView → List RecordView
with_addition list added = cond (nat_eq (length added) (length list + 1)) added list
