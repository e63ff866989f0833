-- What a run of a command leaves.
use Rattle.std.specs.Prelude.{◌≡◌, ℕ, ◌<◌, ◌≤◌, ◌⊎◌, List, [], ◌∷◌, ◌++◌, Bool, true, false, Some, None}
use Rattle.std.specs.Prelude.{codes, decimal, length, take}
use Rattle.std.specs.Io.KnownBytes.{Appends}
use Rattle.std.specs.List.{concat}
use Rattle.std.specs.declared.option.Option.{Option}
use Rattle.certifier.specs.Certificates.{verdict_on}
use Rattle.certifier.specs.Checks.{Checks, Tells}
use Rattle.certifier.specs.declared.checking.CheckEnd.{CheckEnd}
use Rattle.certifier.specs.declared.checking.CheckEnd.TheVariants as check_ends
use Rattle.desks.specs.Boards.{DoorsServed}
use Rattle.desks.specs.Doors.{AnyRose, DoorView}
use Rattle.line_reader.specs.declared.reader.TheConstants.{MOST_BYTES}
use Rattle.made_networks.specs.Draws.{made_net}
use Rattle.made_networks.specs.Summaries.{IsSummaryOf, summary_text}
use Rattle.made_networks.specs.declared.summary.Summary.{Summary}
use Rattle.planner_server.specs.declared.command.Command.{Command}
use Rattle.planner_server.specs.declared.command.Command.TheVariants.{Plan, Check, Make, Serve}
use Rattle.planner_server.specs.declared.command.Making.{Making}
use Rattle.planner_server.specs.declared.command.Serving.{Serving}
use Rattle.planner_server.specs.declared.outcome.Status.{Status}
use Rattle.planner_server.specs.declared.outcome.Status.TheVariants.{Done, BadWords, ReadFault, WriteFault}
use Rattle.planner_server.specs.declared.outcome.Status.TheVariants.{DoorFault, NoMemory, TooLong, NotAccepted}
use Rattle.planner_server.specs.Statuses.{check_status}
use Rattle.session.specs.Answers.{Alone}
use Rattle.session.specs.Sessions.{Breaks, Ends, IsComplete, IsCutShort, IsTooLong, Moment}
use Rattle.text_forms.specs.Items.{Item, NoBye, items_of}
use Rattle.tree_versions.specs.Records.{RecordView}
use Rattle.wires.specs.Causes.{Rose}
use Rattle.wires.specs.Lazy.{Wire}
use Rattle.wires.specs.declared.sinks.Sink.{Ghosts as SinkGhosts}
use Rattle.wires.specs.declared.sources.Source.{Ghosts as SourceGhosts}

-- What a source and a sink show at a moment: the bytes that are left and were written, whether the end was met, and how
-- often either has failed.
pub record Ports : Type 0 where
  pub wire : Wire
  pub read_faults : ℕ
  pub write_faults : ℕ

-- those of two objects
abbrev pub ports : {S K : Type 0} → SourceGhosts S → SinkGhosts K → S → K → Ports
ports g h source sink = record {
  wire = record { left = g.left source; ended = g.ended source; written = h.written sink };
  read_faults = g.read_faults source;
  write_faults = h.write_faults sink;
}

-- What a run met and what it left: what the source and the sink showed before and show now, and the records that are
-- handed back.
pub record RunView : Type 0 where
  pub start : Ports
  pub now : Ports
  pub records : List RecordView

-- the source failed in the run
abbrev pub ReadFailed : RunView → Type 0
ReadFailed run = Rose run.start.read_faults run.now.read_faults

-- the sink failed in the run
abbrev pub WriteFailed : RunView → Type 0
WriteFailed run = Rose run.start.write_faults run.now.write_faults

-- What was written answers the whole items of the bytes that were taken, over the records of the run and no others, and
-- P holds of these bytes and items.
abbrev pub AnswersItems : (List ℕ → List Item → Type 0) → RunView → Type 0
AnswersItems P run = Ends P run.start.wire run.now.wire (Alone run.records 0)

-- a shelf without records, before the run
abbrev pub moment_before : RunView → Moment
moment_before run = record { shelf = record { seen = []; published = 0 }; wire = run.start.wire }

-- that shelf with the records of the run
abbrev pub moment_behind : RunView → Moment
moment_behind run =
    record { shelf = record { seen = run.records; published = length run.records }; wire = run.now.wire }

-- What was written answers a front of these items so, but for a part of the last of these replies.
abbrev pub AnswersFront : RunView → Type 0
AnswersFront run = Breaks true (moment_before run) (moment_behind run)

-- what was written in a run of `plan` that ended so
abbrev pub PlanEnds : Status → RunView → Type 0
PlanEnds Done run = AnswersItems (IsComplete run.now.wire) run
PlanEnds ReadFault run = AnswersItems (IsCutShort run.now.wire) run
PlanEnds TooLong run = AnswersItems (IsTooLong run.now.wire) run
PlanEnds WriteFault run = AnswersFront run
PlanEnds NoMemory run = Unit {0}
PlanEnds BadWords run = ⊥
PlanEnds DoorFault run = ⊥
PlanEnds NotAccepted run = ⊥

-- A session over the source and the sink. Where the source tells that it has fewer than MOST_BYTES left and nothing
-- fails, it is done, unless there was no memory to begin with. Where it gave MOST_BYTES without a BYE, and its end
-- wasn't met, they are too many, unless the sink failed.
pub record PlanRan (status : Status) (run : RunView) : Type 0 where
  pub ends : PlanEnds status run
  pub completes : (bytes : List ℕ) → run.start.wire.left ≡ Some bytes → length bytes < MOST_BYTES
      → (ReadFailed run → ⊥) → (WriteFailed run → ⊥) → (status ≡ Done) ⊎ (status ≡ NoMemory)
  pub always_too_long : (taken rest : List ℕ) → run.start.wire.left ≡ Some (taken ++ rest)
      → run.now.wire.left ≡ Some rest → length taken ≡ MOST_BYTES → run.now.wire.ended ≡ false
      → NoBye (items_of false taken) → (WriteFailed run → ⊥) → status ≡ TooLong

-- A check of what the source tells as a certificate: it took bytes, and wrote the line of the verdict on them, as its
-- end says. Where nothing fails and the bytes that the source tells aren't too many, as fewer than MOST_BYTES never
-- are, that is the verdict on all of them, unless memory was wanted. There are no records.
pub record CheckRan (status : Status) (run : RunView) : Type 0 where
  pub end : CheckEnd
  pub status_is : status ≡ check_status end
  pub checks : Checks end run.start.wire run.now.wire
  pub exact : (bytes : List ℕ) → run.start.wire.left ≡ Some bytes → (ReadFailed run → ⊥) → (WriteFailed run → ⊥)
      → (end ≡ check_ends.TooLong → ⊥) → Tells end (verdict_on true bytes) ⊎ (end ≡ check_ends.NoMemory)
  pub completes : (bytes : List ℕ) → run.start.wire.left ≡ Some bytes → length bytes < MOST_BYTES
      → (ReadFailed run → ⊥) → (WriteFailed run → ⊥)
      → Tells end (verdict_on true bytes) ⊎ (end ≡ check_ends.NoMemory)
  pub no_record : run.records ≡ []

-- A summary is that of the network that is asked for.
abbrev pub IsMadeSummary : Making → Summary → Type 0
IsMadeSummary making summary = IsSummaryOf (made_net making.seed making.routers making.links) summary

-- All three lines of the network's summary were written.
pub record WritesSummary (making : Making) (before now : Option (List ℕ)) : Type 0 where
  pub summary : Summary
  pub is_made : IsMadeSummary making summary
  pub wrote : Appends before now (summary_text summary)

-- A front of these lines was written.
pub record WritesFront (making : Making) (before now : Option (List ℕ)) : Type 0 where
  pub summary : Summary
  pub is_made : IsMadeSummary making summary
  pub count : ℕ
  pub most : count ≤ length (summary_text summary)
  pub wrote : Appends before now (take count (summary_text summary))

-- what was written in a run of `make` that ended so
abbrev pub MakeEnds : Making → Status → Option (List ℕ) → Option (List ℕ) → Type 0
MakeEnds making Done before now = WritesSummary making before now
MakeEnds making WriteFault before now = WritesFront making before now
MakeEnds making NoMemory before now = now ≡ before
MakeEnds making BadWords before now = ⊥
MakeEnds making ReadFault before now = ⊥
MakeEnds making TooLong before now = ⊥
MakeEnds making DoorFault before now = ⊥
MakeEnds making NotAccepted before now = ⊥

-- The summary of the network that is asked for was written, as the end says. Where no put fails it is written, unless
-- memory was wanted. The source is as it was, and there are no records.
pub record MakeRan (making : Making) (status : Status) (run : RunView) : Type 0 where
  pub ends : MakeEnds making status run.start.wire.written run.now.wire.written
  pub completes : (WriteFailed run → ⊥) → (status ≡ Done) ⊎ (status ≡ NoMemory)
  pub left : run.now.wire.left ≡ run.start.wire.left
  pub ended : run.now.wire.ended ≡ run.start.wire.ended
  pub reads : run.now.read_faults ≡ run.start.read_faults
  pub no_record : run.records ≡ []

-- What the doors of a run showed before, and show now.
pub record DoorsView : Type 0 where
  pub olds : List DoorView
  pub news : List DoorView

-- a door failed in the run
abbrev pub DoorFailed : DoorsView → Type 0
DoorFailed doors = AnyRose doors.olds doors.news

-- The text of the last line of `serve`: how many sessions ended, and how many records there are.
unfoldable pub served_text : ℕ → ℕ → List ℕ
served_text sessions versions =
    concat (codes "served " ∷ decimal sessions ∷ codes " versions " ∷ decimal versions ∷ codes "\n" ∷ [])

-- A front of a text was written.
pub record AppendsFront (before now : Option (List ℕ)) (text : List ℕ) : Type 0 where
  pub count : ℕ
  pub most : count ≤ length text
  pub wrote : Appends before now (take count text)

-- What a sink shows: the bytes that were written, and how often it has failed.
pub record SinkView : Type 0 where
  pub written : Option (List ℕ)
  pub faults : ℕ

-- that of an object
abbrev pub sink_view : {K : Type 0} → SinkGhosts K → K → SinkView
sink_view h sink = record { written = h.written sink; faults = h.write_faults sink }

-- The first doors were served, as many as there are desks at most, over the records that are handed back, and P holds
-- of the last line.
pub record Serves (serving : Serving) (records : List RecordView) (doors : DoorsView) (failed : Bool)
    (P : List ℕ → Type 0) : Type 0 where
  pub clients : ℕ
  pub served : DoorsServed serving.sessions serving.desks records (record {
    olds = doors.olds;
    news = doors.news;
    end = record { clients = clients; failed = failed };
  })
  pub line : P (served_text clients (length records))

-- what was done in a run of `serve` that ended so, and what the sink showed before and shows now
abbrev pub ServeEnds : Serving → Status → List RecordView → DoorsView → SinkView → SinkView → Type 0
ServeEnds serving Done records doors before now =
    Serves serving records doors false (λ line. Appends before.written now.written line)
ServeEnds serving WriteFault records doors before now =
    Serves serving records doors false (λ line. AppendsFront before.written now.written line)
ServeEnds serving DoorFault records doors before now = Serves serving records doors true
    (λ line. (Appends before.written now.written line × (now.faults ≡ before.faults))
    ⊎ (Rose before.faults now.faults × AppendsFront before.written now.written line))
ServeEnds serving NoMemory records doors before now = (doors.news ≡ doors.olds) × (records ≡ [])
ServeEnds serving BadWords records doors before now = ⊥
ServeEnds serving ReadFault records doors before now = ⊥
ServeEnds serving TooLong records doors before now = ⊥
ServeEnds serving NotAccepted records doors before now = ⊥

-- The doors were served, as the end says. Where no put fails and no door, the last line was written whole, unless
-- memory was wanted. A fault is told only where there was one.
pub record ServeRan (serving : Serving) (status : Status) (run : RunView) (doors : DoorsView) : Type 0 where
  pub ends : ServeEnds serving status run.records doors
      (record { written = run.start.wire.written; faults = run.start.write_faults })
      (record { written = run.now.wire.written; faults = run.now.write_faults })
  pub completes : (WriteFailed run → ⊥) → (DoorFailed doors → ⊥) → (status ≡ Done) ⊎ (status ≡ NoMemory)
  pub put_cause : (WriteFailed run → ⊥) → (status ≡ WriteFault → ⊥)
  pub door_cause : status ≡ DoorFault → DoorFailed doors

-- At this end nothing was read or written: where there is no command, and where `plan`, `make` or `serve` had no
-- memory.
abbrev pub IsUntouched : Option Command → Status → Type 0
IsUntouched None status = Unit {0}
IsUntouched (Some (Plan workers)) status = status ≡ NoMemory
IsUntouched (Some Check) status = ⊥
IsUntouched (Some (Make making)) status = status ≡ NoMemory
IsUntouched (Some (Serve serving)) status = status ≡ NoMemory

-- A run reads nothing: where there is no command, and of `make` and `serve`.
abbrev pub ReadsNothing : Option Command → Type 0
ReadsNothing None = Unit {0}
ReadsNothing (Some (Plan workers)) = ⊥
ReadsNothing (Some Check) = ⊥
ReadsNothing (Some (Make making)) = Unit {0}
ReadsNothing (Some (Serve serving)) = Unit {0}

-- the command was run, ended so, and met and left this
abbrev pub Ran : Command → Status → RunView → DoorsView → Type 0
Ran (Plan workers) status run doors = PlanRan status run
Ran Check status run doors = CheckRan status run
Ran (Make making) status run doors = MakeRan making status run
Ran (Serve serving) status run doors = ServeRan serving status run doors

-- how many doors a run may ask, the first ones: as many as `serve` has desks, and else none
abbrev pub doors_asked : Option Command → ℕ
doors_asked None = 0
doors_asked (Some (Plan workers)) = 0
doors_asked (Some Check) = 0
doors_asked (Some (Make making)) = 0
doors_asked (Some (Serve serving)) = serving.desks
