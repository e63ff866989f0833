-- A run of lines, as contracts see it.
use Rattle.std.specs.Prelude.{ℕ, List, []}
use Rattle.reply_lines.specs.declared.run.TheConstants.{ROOM_BYTES}

-- The bytes that weren't taken yet, how many more bytes there is room for, and how often a put was refused.
pub record RunView : Type 0 where
  pub rest : List ℕ
  pub room : ℕ
  pub faults : ℕ

-- No byte, and all the room.
abbrev pub empty_run : ℕ → RunView
empty_run faults = record { rest = []; room = ROOM_BYTES; faults = faults }
