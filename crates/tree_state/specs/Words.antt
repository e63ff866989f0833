-- Which routers one word of a side moves.
use Rattle.std.specs.Prelude.{ℕ, ◌/◌, ◌%◌, Bool, ◌&&◌, ◌==◌, if◌then◌else◌}
use Rattle.std.specs.Int.{bit_at}
use Rattle.tree_state.specs.Tables.{Table}

-- Whether the word at a place has the router, of the 64 from `64 * place` on.
abbrev pub in_word : ℕ → ℕ → ℕ → Bool
in_word place word i = (i / 64 == place) && (bit_at word (i % 64) == 1)

-- What is above each router once those of the word that hung from t hang from s.
abbrev pub moved_by : ℕ → ℕ → ℕ → ℕ → Table → Table
moved_by place word s t up i = if in_word place word i && (up i == t) then s else up i
