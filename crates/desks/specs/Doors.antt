-- What desks did with doors.
use Rattle.std.specs.Prelude.{◌≡◌, ℕ, ◌+◌, ◌≤◌, ◌⊎◌, ◌||◌, List, [], ◌∷◌, ◌++◌, Bool, true, false, length, map, None}
use Rattle.std.specs.Option.{option_map}
use Rattle.std.specs.declared.option.Option.{Option}
use Rattle.desks.specs.Visits.{AreAnswered, ClientView, IsAnswered, Visit}
use Rattle.desks.specs.declared.doors.DoorEnd.{DoorEnd}
use Rattle.desks.specs.declared.seating.DoorsEnd.{DoorsEnd}
use Rattle.session.specs.Shelved.{Shelved}
use Rattle.tree_versions.specs.Records.{Grows, RecordView}
use Rattle.tree_versions.specs.declared.shelf.TheConstants.{MOST_RECORDS}
use Rattle.wires.specs.Causes.{CountsOne, Rose}
use Rattle.wires.specs.Doors.{Beginning}
use Rattle.wires.specs.declared.doors.Door.{Ghosts as DoorGhosts}
use Rattle.wires.specs.declared.sinks.Sink.{Ghosts as SinkGhosts}
use Rattle.wires.specs.declared.sources.Source.{Ghosts as SourceGhosts}

-- What a door shows: who is out, the visits so far, where they are told, whether the last client has come, and how
-- often it has failed.
pub record DoorView : Type 0 where
  pub out : Option (Option Beginning)
  pub visits : Option (List Visit)
  pub ended : Bool
  pub faults : ℕ

-- what a client shows
abbrev pub client_view : {C : Type 0} → SourceGhosts C → SinkGhosts C → C → ClientView
client_view g h client = record {
  wire = record { left = g.left client; ended = g.ended client; written = h.written client };
  read_faults = g.read_faults client;
  write_faults = h.write_faults client;
}

-- a visit of a client
abbrev pub visit_of : {C : Type 0} → SourceGhosts C → SinkGhosts C → Beginning × C → Visit
visit_of g h visit = record { begin = visit.0; back = client_view g h visit.1 }

-- what a door shows
abbrev pub door_view : {D C : Type 0} → DoorGhosts D C → SourceGhosts C → SinkGhosts C → D → DoorView
door_view g source sink door = record {
  out = g.out door;
  visits = option_map (map (visit_of source sink)) (g.served door);
  ended = g.ended door;
  faults = g.door_faults door;
}

-- how one door ended, as the end of several
abbrev pub end_of : DoorEnd → DoorsEnd
end_of one = record { clients = one.clients; failed = one.failed }

-- how no door ended
abbrev pub nothing : DoorsEnd
nothing = record { clients = 0; failed = false }

-- two ends together
abbrev pub both : DoorsEnd → DoorsEnd → DoorsEnd
both one other = record { clients = one.clients + other.clients; failed = one.failed || other.failed }

-- A door was served over these records: up to so many clients came, one after another, and each was given back. They
-- loaded so many networks. Unless the door failed, so many clients came, or it has ended. Nobody comes through a door
-- that had ended before, and it stays so.
pub record IsServed (records : List RecordView) (quota : ℕ) (old new : DoorView) (end : DoorsEnd) (loads : ℕ) : Type 0
  where
    pub visits : List Visit
    pub told : new.visits ≡ option_map (λ (before : List Visit). before ++ visits) old.visits
    pub last : ℕ
    pub answered : AreAnswered records 0 visits last loads
    pub counted : end.clients ≡ length visits
    pub few : end.clients ≤ quota
    pub through : end.failed ≡ false → (end.clients ≡ quota) ⊎ (new.ended ≡ true)
    pub shut : old.ended ≡ true → visits ≡ []
    pub stays : old.ended ≡ true → new.ended ≡ true
    pub cause : CountsOne old.faults new.faults end.failed
    pub nobody : new.out ≡ None

-- The first of several doors was served, and P holds of the end of the others and of the networks that were loaded
-- there.
pub record ServesOn (records : List RecordView) (quota : ℕ) (old new : DoorView) (end : DoorsEnd) (loads : ℕ)
    (P : DoorsEnd → ℕ → Type 0) : Type 0 where
  pub own : DoorsEnd
  pub others : DoorsEnd
  pub loaded : ℕ
  pub more : ℕ
  pub served : IsServed records quota old new own loaded
  pub sum : end ≡ both own others
  pub all_loads : loads ≡ loaded + more
  pub on : P others more

-- Each of these doors was served, together they ended so, and their clients loaded so many networks.
abbrev pub AreServed : List RecordView → ℕ → List DoorView → List DoorView → DoorsEnd → ℕ → Type 0
AreServed records quota [] [] end loads = (end ≡ nothing) × (loads ≡ 0)
AreServed records quota (old ∷ olds) (new ∷ news) end loads =
    ServesOn records quota old new end loads (λ others more. AreServed records quota olds news others more)
AreServed records quota [] (new ∷ news) end loads = ⊥
AreServed records quota (old ∷ olds) [] end loads = ⊥

-- Doors before they were served and behind it, and how they ended.
pub record Round (D : Type 0) : Type 0 where
  pub olds : List D
  pub news : List D
  pub end : DoorsEnd

-- One of these doors failed meanwhile.
abbrev pub AnyRose : List DoorView → List DoorView → Type 0
AnyRose [] [] = ⊥
AnyRose (old ∷ olds) (new ∷ news) = Rose old.faults new.faults ⊎ AnyRose olds news
AnyRose [] (new ∷ news) = ⊥
AnyRose (old ∷ olds) [] = ⊥

-- A desk's place: the shelf on which it publishes, and the door that it serves.
pub record Station : Type 0 where
  pub shelf : Shelved
  pub door : DoorView

-- that place
abbrev pub station : Shelved → DoorView → Station
station shelf door = record { shelf = shelf; door = door }

-- A client that a door had given was served, from a version that was seen, and given back. The door is else as it was.
pub record ServesClient (seen : ℕ) (begin : Beginning) (start now : Station) : Type 0 where
  pub back : ClientView
  pub last : ℕ
  pub loads : ℕ
  pub answered : IsAnswered now.shelf.seen (record { seen = seen; last = last; loads = loads })
      (record { begin = begin; back = back })
  pub told : now.door.visits
      ≡ option_map (λ (before : List Visit). before ++ record { begin = begin; back = back } ∷ []) start.door.visits
  pub reached : last ≤ length now.shelf.seen
  pub grows : Grows start.shelf.seen now.shelf.seen
  pub few : length now.shelf.seen ≤ MOST_RECORDS
  pub counted : now.shelf.published ≡ start.shelf.published + loads
  pub nobody : now.door.out ≡ None
  pub ended : now.door.ended ≡ start.door.ended
  pub faults : now.door.faults ≡ start.door.faults

-- So many clients of a door were served, one after another, and given back; it didn't fail.
pub record HasServed (count : ℕ) (start now : Station) : Type 0 where
  pub visits : List Visit
  pub count_is : length visits ≡ count
  pub last : ℕ
  pub loads : ℕ
  pub answered : AreAnswered now.shelf.seen 0 visits last loads
  pub told : now.door.visits ≡ option_map (λ (before : List Visit). before ++ visits) start.door.visits
  pub shut : start.door.ended ≡ true → visits ≡ []
  pub stays : start.door.ended ≡ true → now.door.ended ≡ true
  pub reached : last ≤ length now.shelf.seen
  pub grows : Grows start.shelf.seen now.shelf.seen
  pub counted : now.shelf.published ≡ start.shelf.published + loads
  pub faults : now.door.faults ≡ start.door.faults

-- A door was served by a desk, which published as many records as networks were loaded.
pub record ServesDoor (quota : ℕ) (start now : Station) (end : DoorEnd) : Type 0 where
  pub loads : ℕ
  pub served : IsServed now.shelf.seen quota start.door now.door (end_of end) loads
  pub grows : Grows start.shelf.seen now.shelf.seen
  pub counted : now.shelf.published ≡ start.shelf.published + loads
