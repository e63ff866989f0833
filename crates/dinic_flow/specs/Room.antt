-- Room for networks.
use Rattle.std.specs.Prelude.{ℕ, ◌≤◌, length}
use Rattle.cut_model.specs.Net.{Net}

-- The greatest number of routers and the greatest number of links that there is room for.
pub record Room : Type 0 where
  pub routers : ℕ
  pub links : ℕ

-- A network has at most as many routers and links.
pub record Fits (room : Room) (net : Net) : Type 0 where
  pub routers : net.routers ≤ room.routers
  pub links : length net.links ≤ room.links
