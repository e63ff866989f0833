-- A peer in memory that may be not ready, as contracts see it, and what its next call answers.
use Rattle.std.specs.Prelude.{ℕ, ◌-◌, ◌==◌, ◌&&◌, min, List, [], length, take, Bool, nat_lt, Some, if◌then◌else◌}
use Rattle.wires.specs.Causes.{one_more}
use Rattle.wires.specs.Lazy.{Counts, Wire}
use Rattle.wires.specs.Memory.{is_named}
use Rattle.wires.specs.declared.lazy.Got.{Got}
use Rattle.wires.specs.declared.lazy.Got.TheVariants as got
use Rattle.wires.specs.declared.lazy.Taken.{Taken}
use Rattle.wires.specs.declared.lazy.Taken.TheVariants as taken

-- the rules of a peer: the most that a call moves, the most that is written in all, and the numbers of the calls
-- that aren't ready and of those that fail
pub record Rules : Type 0 where
  pub piece : ℕ
  pub room : ℕ
  pub late : List ℕ
  pub failing : List ℕ

-- a peer: the bytes that are left, whether a read met the end, the bytes that were written, how many reads and puts
-- there were, how many of them failed or weren't ready, and its rules
pub record LazyState : Type 0 where
  pub left : List ℕ
  pub ended : Bool
  pub written : List ℕ
  pub calls : ℕ
  pub counts : Counts
  pub rules : Rules

-- what the peer shows of its bytes
abbrev pub wire_of : LazyState → Wire
wire_of p = record { left = Some p.left; ended = p.ended; written = Some p.written }

-- the next call fails, unless the end was met and it is a read
abbrev pub is_failing : LazyState → Bool
is_failing p = is_named p.rules.failing (one_more p.calls)

-- the next call is one that isn't ready, unless it fails
abbrev pub is_late : LazyState → Bool
is_late p = is_named p.rules.late (one_more p.calls)

-- a read gives so many bytes into a buffer of this length; none means the end, unless the buffer is empty
abbrev pub bytes_or_end : ℕ → ℕ → Got
bytes_or_end count room = if (count == 0) && nat_lt 0 room then got.End else got.Bytes count

-- a put takes so many bytes of a piece of this length; to take none of some is a failure
abbrev pub bytes_or_failed : ℕ → ℕ → Taken
bytes_or_failed count size = if (count == 0) && nat_lt 0 size then taken.Failed else taken.Bytes count

-- what a read into a buffer of this length answers
abbrev pub read_answer : LazyState → ℕ → Got
read_answer p room =
    if p.ended then got.End
    else (if is_failing p then got.Failed
    else (if is_late p then got.NotYet
    else bytes_or_end (min (min (length p.left) p.rules.piece) room) room))

-- what a put of a piece of this length answers
abbrev pub put_answer : LazyState → ℕ → Taken
put_answer p size =
    if is_failing p then taken.Failed
    else (if is_late p then taken.NotYet
    else bytes_or_failed (min (min size p.rules.piece) (p.rules.room - length p.written)) size)

-- what a put writes of its piece by its answer: as many of its first bytes as it says, and else none
abbrev pub written_by : Taken → List ℕ → List ℕ
written_by (taken.Bytes count) piece = take count piece
written_by taken.NotYet piece = []
written_by taken.Failed piece = []
