-- A door in memory as contracts see it, and what its next call does.
use Rattle.std.specs.Prelude.{ℕ, ◌==◌, List, length, Bool, Some}
use Rattle.std.specs.Option.{option_map}
use Rattle.std.specs.declared.option.Option.{Option}
use Rattle.wires.specs.Causes.{one_more}
use Rattle.wires.specs.Doors.{Beginning, begun}
use Rattle.wires.specs.Memory.{is_named}
use Rattle.wires.specs.declared.memory_peer.MemoryPeer.{MemoryPeer}

-- the beginning of a client in memory
abbrev pub beginning_of : MemoryPeer → Beginning
beginning_of client =
    begun (Some client.source.left) (Some client.sink.bytes) client.source.faults client.sink.faults

-- a door: the clients that are left to give, in order, the beginning of the one that is out, the clients that came
-- back, in order, each behind its beginning, the numbers of the calls for a client that fail, how many of these calls
-- there were, and how many of them failed
pub record Lobby : Type 0 where
  pub waiting : List MemoryPeer
  pub out : Option Beginning
  pub served : List (Beginning × MemoryPeer)
  pub failing : List ℕ
  pub calls : ℕ
  pub faults : ℕ

-- who is out of the door, which always tells the beginning
abbrev pub who_is_out : Lobby → Option (Option Beginning)
who_is_out door = option_map (λ (b : Beginning). Some b) door.out

-- no client is left to give
abbrev pub has_ended : Lobby → Bool
has_ended door = length door.waiting == 0

-- the next call for a client fails
abbrev pub next_fails : Lobby → Bool
next_fails door = is_named door.failing (one_more door.calls)
