-- Runs of routers of a side.
use Rattle.std.specs.Prelude.{◌≡◌, ℕ, ◌<◌, ◌≤◌, List, Bool, true, false, not, length, slice_index_or}
use Rattle.query_lang.specs.declared.runs.Run.{Run}

-- Whether a router that is in, or isn't, is sought: those that are in, or those that aren't.
abbrev pub is_sought : Bool → Bool → Bool
is_sought true held = held
is_sought false held = not held

-- None of the routers from one number up to another one is sought.
abbrev pub AreOthers : List Bool → Bool → ℕ → ℕ → Type 0
AreOthers side inside from to =
    (r : ℕ) → from ≤ r → r < to → r < length side → slice_index_or side r false ≡ not inside

-- The whole first run from a router on: its routers are in the side, none before it is, and the one behind it
-- isn't. It has a router, but where none is left.
pub record IsRun (side : List Bool) (from : ℕ) (run : Run) : Type 0 where
  pub behind : from ≤ run.begin
  pub order : run.begin ≤ run.end
  pub within : run.end ≤ length side
  pub out : AreOthers side true from run.begin
  pub held : AreOthers side false run.begin run.end
  pub some : run.begin < length side → run.begin < run.end
  pub stops : run.end < length side → slice_index_or side run.end false ≡ false
