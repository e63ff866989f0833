-- Terminals: the routers between which cuts may be asked for.
use Rattle.std.specs.Prelude.{◌≡◌, ℕ, zero, suc, ◌+◌, nat_lt, true, if◌then◌else◌}
use Rattle.cut_model.specs.Net.{Net}
use Rattle.cut_model.specs.Cuts.{RouterSet}

-- How many of the numbers below n a set holds.
unfoldable pub number_in : RouterSet → ℕ → ℕ
number_in X zero = 0
number_in X (suc n) = (if X n then 1 else 0) + number_in X n

-- The set of terminals. Every router of a network is one.
unfoldable pub is_terminal : Net → RouterSet
is_terminal net router = nat_lt router net.routers

-- A router is a terminal of the network.
abbrev pub IsTerminal : Net → ℕ → Type 0
IsTerminal net router = is_terminal net router ≡ true

-- How many terminals a network has.
abbrev pub terminal_count : Net → ℕ
terminal_count net = number_in (is_terminal net) net.routers

-- The terminal of smallest number.
unfoldable pub root_of : Net → ℕ
root_of net = 0
