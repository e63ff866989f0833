-- What contracts see of a desk, and what its parts keep.
use Rattle.std.specs.Prelude.{◌≡◌, ℕ, ℤ, List, length}
use Rattle.cut_model.specs.Net.{Net}
use Rattle.residual_graph.specs.View.{ResidualView, IsSound}
use Rattle.dinic_flow.specs.Room.{Room}

-- The room of a desk, the network that it holds, and the flow on each link of that.
pub record DeskView : Type 0 where
  pub room : Room
  pub net : Net
  pub flow : List ℤ

-- The residual graph has the room of the desk, and each list a place for each router.
pub record IsEquipped (routers links : ℕ) (graph : ResidualView)
    (label marks cursor ahead behind : List ℕ) : Type 0 where
  pub graph_routers : graph.room_routers ≡ routers
  pub graph_links : graph.room_links ≡ links
  pub sound : IsSound graph
  pub label_room : length label ≡ routers
  pub marks_room : length marks ≡ routers
  pub cursor_room : length cursor ≡ routers
  pub ahead_room : length ahead ≡ routers
  pub behind_room : length behind ≡ routers
