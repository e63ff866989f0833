-- Sources and sinks in memory as contracts see them, and what their next call does.
use Rattle.std.specs.Prelude.{ℕ, ◌-◌, ◌==◌, ◌&&◌, min, List, [], length, take, Bool, not}
use Rattle.std.specs.Prelude.{if◌then◌else◌}
use Rattle.std.specs.List.{list_any}
use Rattle.wires.specs.Causes.{one_more}

-- a source: the bytes that are left, the most that a read gives, the numbers of the reads that fail,
-- how many reads there were, how many of them failed, and whether one met the end
pub record Supply : Type 0 where
  pub left : List ℕ
  pub piece : ℕ
  pub failing : List ℕ
  pub calls : ℕ
  pub faults : ℕ
  pub ended : Bool

-- a sink: the bytes that were written, the most that it keeps, the numbers of the puts that fail,
-- how many puts there were, and how many of them failed
pub record Store : Type 0 where
  pub bytes : List ℕ
  pub room : ℕ
  pub failing : List ℕ
  pub calls : ℕ
  pub faults : ℕ

-- a source that never fails: the bytes that are left, and whether a read met the end
pub record Sure : Type 0 where
  pub left : List ℕ
  pub ended : Bool

-- the call is one of those with these numbers
abbrev pub is_named : List ℕ → ℕ → Bool
is_named numbers call = list_any (λ number. number == call) numbers

-- the next read fails
abbrev pub read_fails : Supply → Bool
read_fails s = not s.ended && is_named s.failing (one_more s.calls)

-- how many bytes a read gives into a buffer of this length
abbrev pub read_count : Supply → ℕ → ℕ
read_count s room = min (min (length s.left) s.piece) room

-- the next put is one that is to fail
abbrev pub is_refused : Store → Bool
is_refused s = is_named s.failing (one_more s.calls)

-- what a put of this piece writes
abbrev pub put_writes : Store → List ℕ → List ℕ
put_writes s piece = if is_refused s then [] else take (s.room - length s.bytes) piece
