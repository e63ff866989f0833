-- Connections and a door over a listener, as contracts see them: nothing of the bytes.
use Rattle.std.specs.Prelude.{ℕ, Bool, true, false, None, Some}
use Rattle.std.specs.declared.option.Option.{Option}
use Rattle.wires.specs.Doors.{Beginning, begun}

-- a connection: whether a read met the end, whether one failed, and how often a read and a put have failed
pub record Connection : Type 0 where
  pub ended : Bool
  pub is_lost : Bool
  pub read_faults : ℕ
  pub write_faults : ℕ

-- a connection of which nothing was asked
abbrev pub fresh : Connection
fresh = record { ended = false; is_lost = false; read_faults = 0; write_faults = 0 }

-- what a client shows that comes over a connection
abbrev pub shown_of : Connection → Beginning
shown_of client = begun None None client.read_faults client.write_faults

-- a door: whether it has no listener, whether a client is out, and how often the door has failed
pub record Listening : Type 0 where
  pub is_broken : Bool
  pub is_out : Bool
  pub faults : ℕ

-- who is out of a door that tells no beginning
abbrev pub untold_out : Bool → Option (Option Beginning)
untold_out true = Some None
untold_out false = None
