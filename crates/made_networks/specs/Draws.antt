-- The draws of a seed, and the network that they make.
use Rattle.std.specs.Prelude.{ℕ, zero, suc, ◌+◌, ◌*◌, ◌%◌, List, map}
use Rattle.std.specs.List.{range_with_len}
use Rattle.cut_model.specs.declared.network.Link.{Link}
use Rattle.cut_model.specs.Net.{Net}

-- The draw behind a draw, or behind the seed.
abbrev pub draw_after : ℕ → ℕ
draw_after x = (75 * x + 74) % 65537

-- The third draw behind a draw.
abbrev pub draw_after_three : ℕ → ℕ
draw_after_three x = draw_after (draw_after (draw_after x))

-- The draw of a number, counted from 1. Before the first one stands the seed.
unfoldable pub draw : ℕ → ℕ → ℕ
draw seed zero = seed
draw seed (suc n) = draw_after (draw seed n)

-- The link among so many routers that the next three draws make: its ends, and its capacity.
unfoldable pub link_after : ℕ → ℕ → Link
link_after routers x = record {
  a = draw_after x % routers;
  b = draw_after (draw_after x) % routers;
  cap = draw_after_three x % 1000 + 1;
}

-- The link of a number, counted from 0: those before it took three draws each.
abbrev pub made_link : ℕ → ℕ → ℕ → Link
made_link seed routers number = link_after routers (draw seed (3 * number))

-- The first so many links.
unfoldable pub made_links : ℕ → ℕ → ℕ → List Link
made_links seed routers count = map (made_link seed routers) (range_with_len 0 count)

-- The network that a seed makes, of so many routers and so many links.
abbrev pub made_net : ℕ → ℕ → ℕ → Net
made_net seed routers count = record { routers = routers; links = made_links seed routers count }
