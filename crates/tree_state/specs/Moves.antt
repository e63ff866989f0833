-- How often what is above a router changes.
use Rattle.std.specs.Prelude.{ℕ, zero, suc, ◌+◌, ◌-◌, ◌*◌, ◌/◌, ◌==◌, List, [], ◌∷◌, if◌then◌else◌}
use Rattle.cut_model.specs.Cuts.{RouterSet}
use Rattle.tree_state.specs.declared.entry.Entry.{Entry}
use Rattle.tree_state.specs.Tables.{Tables, start}
use Rattle.tree_state.specs.History.{commit}

-- How many entries, before the router's own, change what is above it: from the tables on from which the first starts.
unfoldable pub moves_from : ℕ → Tables → List Entry → ℕ → ℕ
moves_from root T [] router = 0
moves_from root T (entry ∷ rest) router =
    if router == entry.router then 0
    else (if (commit root T entry).up router == T.up router then 0 else 1)
    + moves_from root (commit root T entry) rest router

-- The moves of a router: the entries of a history, before its own, that change what is above it. All count for a
-- router that has none.
abbrev pub moves : ℕ → List Entry → ℕ → ℕ
moves root history router = moves_from root (start root) history router

-- The sum of f over the numbers below n that a set holds.
unfoldable pub sum_over : RouterSet → (ℕ → ℕ) → ℕ → ℕ
sum_over X f zero = 0
sum_over X f (suc n) = (if X n then f n else 0) + sum_over X f n

-- The most moves that so many terminals make together: half of the product of the two numbers below theirs.
abbrev pub most_moves : ℕ → ℕ
most_moves terminals = (terminals - 1) * (terminals - 2) / 2
