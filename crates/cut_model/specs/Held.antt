-- Least cuts that are held together with their network.
use Rattle.std.specs.Prelude.{◌≡◌, ℕ, ◌<◌, Bool, List, length}
use Rattle.cut_model.specs.Net.{Net, IsInLimits}
use Rattle.cut_model.specs.Cuts.{set_of, IsLeastCut}

-- A network, two of its routers, a set of its routers by their truth values, and a value.
pub record CutView : Type 0 where
  pub net : Net
  pub router : ℕ
  pub neighbour : ℕ
  pub side : List Bool
  pub value : ℕ

-- The network is within the limits, and the side is a least cut of the router from its neighbour and costs the value.
pub record IsHeldCut (cut : CutView) : Type 0 where
  pub limits : IsInLimits cut.net
  pub router_in : cut.router < cut.net.routers
  pub neighbour_in : cut.neighbour < cut.net.routers
  pub size : length cut.side ≡ cut.net.routers
  pub least : IsLeastCut cut.net cut.router cut.neighbour (set_of cut.side) cut.value
