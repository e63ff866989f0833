-- What the calls of a peer that may be not ready do to its bytes and to its counts.
use Rattle.std.specs.Prelude.{◌≡◌, ℕ, ◌<◌, ◌≤◌, ◌||◌, List, length, take, Bool, true, false, IsTrue}
use Rattle.std.specs.Io.KnownBytes.{Appends, Consumes, IsAtEnd, Keeps}
use Rattle.std.specs.declared.option.Option.{Option}
use Rattle.wires.specs.Causes.{CountsOne}
use Rattle.wires.specs.declared.lazy.Got.{Got}
use Rattle.wires.specs.declared.lazy.Got.TheVariants as got
use Rattle.wires.specs.declared.lazy.Taken.{Taken}
use Rattle.wires.specs.declared.lazy.Taken.TheVariants as taken

-- the bytes that are left, where they are told, whether a read has met the end, and the bytes that were
-- written, where they are told
pub record Wire : Type 0 where
  pub left : Option (List ℕ)
  pub ended : Bool
  pub written : Option (List ℕ)

-- how often a read and a put have failed, and how often they weren't ready
pub record Counts : Type 0 where
  pub read_faults : ℕ
  pub write_faults : ℕ
  pub reads_not_yet : ℕ
  pub puts_not_yet : ℕ

-- a count of bytes of a list: no more than it has, and at least one where it has any
pub record IsSomeOf (count : ℕ) (xs : List ℕ) : Type 0 where
  pub fits : count ≤ length xs
  pub some : 0 < length xs → 0 < count

-- the read met the end
abbrev pub is_end_read : Got → Bool
is_end_read (got.Bytes count) = false
is_end_read got.End = true
is_end_read got.NotYet = false
is_end_read got.Failed = false

-- the read failed
abbrev pub is_failed_read : Got → Bool
is_failed_read (got.Bytes count) = false
is_failed_read got.End = false
is_failed_read got.NotYet = false
is_failed_read got.Failed = true

-- no byte was there for the read
abbrev pub is_late_read : Got → Bool
is_late_read (got.Bytes count) = false
is_late_read got.End = false
is_late_read got.NotYet = true
is_late_read got.Failed = false

-- the put failed
abbrev pub is_failed_put : Taken → Bool
is_failed_put (taken.Bytes count) = false
is_failed_put taken.NotYet = false
is_failed_put taken.Failed = true

-- no byte could be put
abbrev pub is_late_put : Taken → Bool
is_late_put (taken.Bytes count) = false
is_late_put taken.NotYet = true
is_late_put taken.Failed = false

-- what a read takes of the bytes that are left: as many as it says, which stand at the front of the buffer then,
-- and else none; none is left where it met the end
abbrev pub ReadTakes : Got → List ℕ → Option (List ℕ) → Option (List ℕ) → Type 0
ReadTakes (got.Bytes count) buffer before now = IsSomeOf count buffer × Consumes before now (take count buffer)
ReadTakes got.End buffer before now = IsAtEnd now × Keeps before now
ReadTakes got.NotYet buffer before now = now ≡ before
ReadTakes got.Failed buffer before now = Keeps before now

-- what a put writes of its piece: as many of its first bytes as it says, none where it wasn't ready, and some front
-- where it failed
abbrev pub PutWrites : Taken → List ℕ → Option (List ℕ) → Option (List ℕ) → Type 0
PutWrites (taken.Bytes count) piece before now = IsSomeOf count piece × Appends before now (take count piece)
PutWrites taken.NotYet piece before now = now ≡ before
PutWrites taken.Failed piece before now = (n : ℕ) × (n ≤ length piece) × Appends before now (take n piece)

-- what a read does to the wire: it takes bytes as it answers; the end was met exactly where it was before or is
-- answered, and behind it no other answer comes for a buffer that isn't empty; what was written stays
pub record ReadTells (answer : Got) (buffer : List ℕ) (old new : Wire) : Type 0 where
  pub bytes : ReadTakes answer buffer old.left new.left
  pub met : new.ended ≡ (old.ended || is_end_read answer)
  pub stays : IsTrue old.ended → 0 < length buffer → answer ≡ got.End
  pub written : new.written ≡ old.written

-- what a put does to the wire: it writes as it answers, and what is left and whether the end was met stay
pub record PutTells (answer : Taken) (piece : List ℕ) (old new : Wire) : Type 0 where
  pub bytes : PutWrites answer piece old.written new.written
  pub left : new.left ≡ old.left
  pub ended : new.ended ≡ old.ended

-- what a read does to the counts: each of its two counts one more at its answer alone, and those of puts stay
pub record ReadCounts (answer : Got) (old new : Counts) : Type 0 where
  pub cause : CountsOne old.read_faults new.read_faults (is_failed_read answer)
  pub late : CountsOne old.reads_not_yet new.reads_not_yet (is_late_read answer)
  pub write_faults : new.write_faults ≡ old.write_faults
  pub puts_not_yet : new.puts_not_yet ≡ old.puts_not_yet

-- what a put does to the counts: each of its two counts one more at its answer alone, and those of reads stay
pub record PutCounts (answer : Taken) (old new : Counts) : Type 0 where
  pub cause : CountsOne old.write_faults new.write_faults (is_failed_put answer)
  pub late : CountsOne old.puts_not_yet new.puts_not_yet (is_late_put answer)
  pub read_faults : new.read_faults ≡ old.read_faults
  pub reads_not_yet : new.reads_not_yet ≡ old.reads_not_yet
