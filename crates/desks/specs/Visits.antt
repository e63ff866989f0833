-- The clients that came through a door, and what their sessions answered them.
use Rattle.std.specs.Prelude.{◌≡◌, ℕ, ◌+◌, ◌<◌, ◌≤◌, List, [], ◌∷◌, ◌++◌, false, length, take, Some}
use Rattle.std.specs.Io.KnownBytes.{Appends, Consumes}
use Rattle.line_reader.specs.declared.reader.TheConstants.{MOST_BYTES}
use Rattle.session.specs.Answers.{Answers}
use Rattle.session.specs.Sessions.{Ends, IsComplete, IsCutShort, IsTooLong}
use Rattle.session.specs.Turns.{is_read_fault, is_write_fault}
use Rattle.session.specs.declared.session.SessionEnd.{SessionEnd}
use Rattle.session.specs.declared.session.SessionEnd.TheVariants.{Done, ReadFault, WriteFault, TooLong}
use Rattle.session.specs.declared.session.Turn.TheVariants.{Ended}
use Rattle.text_forms.specs.Items.{Item, NoBye, items_of}
use Rattle.tree_versions.specs.Records.{RecordView}
use Rattle.wires.specs.Causes.{CountsOne, Rose}
use Rattle.wires.specs.Doors.{Beginning, begun}
use Rattle.wires.specs.Lazy.{Wire}

-- What a client shows: its wire, and how often a read and a put have failed.
pub record ClientView : Type 0 where
  pub wire : Wire
  pub read_faults : ℕ
  pub write_faults : ℕ

-- A visit: what a client showed when it came, and what it showed when it was given back.
pub record Visit : Type 0 where
  pub begin : Beginning
  pub back : ClientView

-- what a client shows as its beginning
abbrev pub begin_of : ClientView → Beginning
begin_of client = begun client.wire.left client.wire.written client.read_faults client.write_faults

-- the wire of a client that came so
abbrev pub wire_of : Beginning → Wire
wire_of begin = record { left = begin.left; ended = false; written = begin.written }

-- Replies that lead from one version to another, with the number of accepted LOADs among them.
pub record Leg : Type 0 where
  pub seen : ℕ
  pub last : ℕ
  pub loads : ℕ

-- What was written answers all whole items of the bytes that were taken, for the reason P.
abbrev pub AnswersAll : (List ℕ → List Item → Type 0) → List RecordView → Leg → Visit → Type 0
AnswersAll P records leg visit =
    Ends P (wire_of visit.begin) visit.back.wire
    (λ items text. Answers false records leg.seen items text leg.last leg.loads)

-- What was written answers a front of the whole items of the bytes that were taken, but for a part of the reply to the
-- last of them. No more than MOST_BYTES were taken.
pub record AnswersFront (records : List RecordView) (leg : Leg) (visit : Visit) : Type 0 where
  pub bytes : List ℕ
  pub earlier : List Item
  pub last : List Item
  pub behind : List Item
  pub text : List ℕ
  pub reply : List ℕ
  pub mid : ℕ
  pub loads : ℕ
  pub loaded : ℕ
  pub count : ℕ
  pub whole : items_of visit.back.wire.ended bytes ≡ (earlier ++ last) ++ behind
  pub one : length last ≤ 1
  pub before : Answers false records leg.seen earlier text mid loads
  pub answers : Answers false records mid last reply leg.last loaded
  pub counted : leg.loads ≡ loads + loaded
  pub gone : Consumes visit.begin.left visit.back.wire.left bytes
  pub wrote : Appends visit.begin.written visit.back.wire.written (text ++ take count reply)
  pub most : length bytes ≤ MOST_BYTES

-- what was written in a visit whose session ended so
abbrev pub VisitEnds : SessionEnd → List RecordView → Leg → Visit → Type 0
VisitEnds Done records leg visit = AnswersAll (IsComplete visit.back.wire) records leg visit
VisitEnds ReadFault records leg visit = AnswersAll (IsCutShort visit.back.wire) records leg visit
VisitEnds TooLong records leg visit = AnswersAll (IsTooLong visit.back.wire) records leg visit
VisitEnds WriteFault records leg visit = AnswersFront records leg visit

-- a read failed in the visit
abbrev pub ReadFailed : Visit → Type 0
ReadFailed visit = Rose visit.begin.read_faults visit.back.read_faults

-- a put failed in the visit
abbrev pub WriteFailed : Visit → Type 0
WriteFailed visit = Rose visit.begin.write_faults visit.back.write_faults

-- A visit was a session over these records, which ended by Done where nothing failed and the client told that it had
-- fewer than MOST_BYTES left, and by TooLong where it gave MOST_BYTES without a BYE, no end was met and no put failed.
-- The counts of faults rose by one at the end that tells it.
pub record IsAnswered (records : List RecordView) (leg : Leg) (visit : Visit) : Type 0 where
  pub end : SessionEnd
  pub ends : VisitEnds end records leg visit
  pub reads : CountsOne visit.begin.read_faults visit.back.read_faults (is_read_fault (Ended end))
  pub writes : CountsOne visit.begin.write_faults visit.back.write_faults (is_write_fault (Ended end))
  pub completes : (bytes : List ℕ) → visit.begin.left ≡ Some bytes → length bytes < MOST_BYTES
      → (ReadFailed visit → ⊥) → (WriteFailed visit → ⊥) → end ≡ Done
  pub always_too_long : (taken rest : List ℕ) → visit.begin.left ≡ Some (taken ++ rest)
      → visit.back.wire.left ≡ Some rest → length taken ≡ MOST_BYTES → visit.back.wire.ended ≡ false
      → NoBye (items_of false taken) → (WriteFailed visit → ⊥) → end ≡ TooLong

-- The first of several visits was answered, and P holds of the version that it came to and of the number of accepted
-- LOADs in the others.
pub record GoesOn (records : List RecordView) (seen loads : ℕ) (visit : Visit) (P : ℕ → ℕ → Type 0) : Type 0 where
  pub next : ℕ
  pub loaded : ℕ
  pub others : ℕ
  pub answered : IsAnswered records (record { seen = seen; last = next; loads = loaded }) visit
  pub sum : loads ≡ loaded + others
  pub on : P next others

-- Visits, one after another, each of which goes on from the version that the one before it came to.
abbrev pub AreAnswered : List RecordView → ℕ → List Visit → ℕ → ℕ → Type 0
AreAnswered records seen [] last loads = (last ≡ seen) × (loads ≡ 0)
AreAnswered records seen (visit ∷ visits) last loads =
    GoesOn records seen loads visit (λ next others. AreAnswered records next visits last others)
