-- What desks at doors do.
use Rattle.std.specs.Prelude.{◌≡◌, ℕ, ◌+◌, ◌≤◌, List, [], ◌∷◌, ◌++◌, drop, length, map, take}
use Rattle.desks.specs.Doors.{AreServed, DoorView, Round, ServesDoor, Station, both, door_view, end_of, nothing}
use Rattle.desks.specs.declared.doors.DoorEnd.{DoorEnd}
use Rattle.desks.specs.declared.seating.DoorsEnd.{DoorsEnd}
use Rattle.desks.specs.declared.desk.Desk.{Desk}
use Rattle.session.specs.Shelved.{Shelved, shelved}
use Rattle.tree_versions.specs.Records.{Grows, RecordView}
use Rattle.tree_versions.specs.declared.shelf.Shelf.{Ghosts as ShelfGhosts}
use Rattle.tree_versions.specs.declared.shelf.TheConstants.{MOST_RECORDS}
use Rattle.wires.specs.declared.doors.Door.{Ghosts as DoorGhosts}
use Rattle.wires.specs.declared.sinks.Sink.{Ghosts as SinkGhosts}
use Rattle.wires.specs.declared.sources.Source.{Ghosts as SourceGhosts}

-- A desk shows the place where it is, and how it ended there.
pub record DeskView : Type 0 where
  pub at : Station
  pub end : DoorEnd

-- what a desk shows
abbrev pub desk_view : {H D C : Type 0} → ShelfGhosts H → DoorGhosts D C → SourceGhosts C → SinkGhosts C → Desk H D
    → DeskView
desk_view shelf door source sink desk = record {
  at = record { shelf = shelved shelf desk.kit.shelf; door = door_view door source sink desk.door };
  end = desk.end;
}

-- A desk served its door.
abbrev pub Works : ℕ → DeskView → DeskView → Type 0
Works quota old new = ServesDoor quota old.at new.at new.end

-- how all of these ended together
abbrev pub all_of : {X : Type 0} → (X → DoorEnd) → List X → DoorsEnd
all_of end_at [] = nothing
all_of end_at (x ∷ xs) = both (end_of (end_at x)) (all_of end_at xs)

-- Each of these holders of shelves has seen a front of the records.
abbrev pub AreFronts : List RecordView → List Shelved → Type 0
AreFronts records [] = Unit {0}
AreFronts records (one ∷ others) = Grows one.seen records × AreFronts records others

-- how many records were published through these shelves together
abbrev pub all_published : List Shelved → ℕ
all_published [] = 0
all_published (one ∷ others) = one.published + all_published others

-- Doors were served over these shelves, through which as many records were published as networks were loaded. It is
-- told for the whole list of records of which the holders have seen fronts.
pub record ServeDoors (quota : ℕ) (starts nows : List Shelved) (round : Round DoorView) : Type 0 where
  pub loads : ℕ
  pub counted : all_published nows ≡ all_published starts + loads
  pub served : (records : List RecordView) → AreFronts records nows → length records ≤ MOST_RECORDS
      → AreServed records quota round.olds round.news round.end loads

-- what is seen of the doors of a round
abbrev pub seen_round : {D : Type 0} → (D → DoorView) → Round D → Round DoorView
seen_round view round = record { olds = map view round.olds; news = map view round.news; end = round.end }

-- the first doors of a round alone
abbrev pub first_of : {D : Type 0} → ℕ → Round D → Round D
first_of count round = record { olds = take count round.olds; news = take count round.news; end = round.end }

-- Doors that wait, and those that were served already.
pub record Queue (D : Type 0) : Type 0 where
  pub waiting : List D
  pub doors : List D

-- So many of the doors that wait were served over one shelf, one after another, and put behind others.
pub record ServesFront {D : Type 0} (view : D → DoorView) (quota count : ℕ) (start now : Shelved)
    (before after : Queue D) (end : DoorsEnd) : Type 0 where
  pub olds : List D
  pub news : List D
  pub count_is : length olds ≡ count
  pub news_are : length news ≡ count
  pub taken : before.waiting ≡ olds ++ after.waiting
  pub given : after.doors ≡ before.doors ++ news
  pub grows : Grows start.seen now.seen
  pub served : ServeDoors quota (start ∷ []) (now ∷ [])
      (seen_round view (record { olds = olds; news = news; end = end }))

-- The first doors were served, and the others are as they were.
pub record ServesFirst {D : Type 0} (view : D → DoorView) (quota count : ℕ) (starts nows : List Shelved)
    (round : Round D) : Type 0 where
  pub served : ServeDoors quota starts nows (first_of count (seen_round view round))
  pub others : drop count round.news ≡ drop count round.olds
