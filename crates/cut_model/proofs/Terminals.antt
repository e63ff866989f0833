-- Terminals are counted, and the root is one.
use Rattle.std.proofs.Common.{◌≡◌, ℕ, ◌<◌}
use Rattle.std.proofs.lemmas.Bool.{lt-ltb, ltb-true}
use Rattle.cut_model.specs.Net.{Net, IsInLimits}
use Rattle.cut_model.specs.Terminals.{is_terminal, IsTerminal, terminal_count, root_of}
use Rattle.cut_model.proofs.Counting.{number_in-all}

-- each router is a terminal
pub all_terminals : (net : Net) (r : ℕ) → r < net.routers → IsTerminal net r
unfolding is_terminal
all_terminals net r low = lt-ltb r net.routers low

-- a terminal is a router of the network
pub terminal-lt : (net : Net) (r : ℕ) → IsTerminal net r → r < net.routers
unfolding is_terminal
terminal-lt net r h = ltb-true r net.routers h

-- so there are as many terminals as routers
pub terminal_count-all : (net : Net) → terminal_count net ≡ net.routers
terminal_count-all net = number_in-all (is_terminal net) net.routers (all_terminals net)

-- the root is a router of the network
pub root-lt : (net : Net) → IsInLimits net → root_of net < net.routers
unfolding root_of
root-lt net limits = limits.some

-- the root is a terminal
pub root_terminal : (net : Net) → IsInLimits net → IsTerminal net (root_of net)
root_terminal net limits = all_terminals net (root_of net) (root-lt net limits)
