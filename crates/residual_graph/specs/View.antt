-- What contracts see of a residual graph.
use Rattle.std.specs.Prelude.{ℕ, ◌≤◌, ◌/◌, ◌%◌, ◌==◌, ℤ, pos, neg_ℤ}
use Rattle.std.specs.Prelude.{◌+ℤ◌, ◌-ℤ◌, List, length, slice_index_or, slice_set, if◌then◌else◌}
use Rattle.cut_model.specs.declared.network.TheConstants.{MOST_ROUTERS, MOST_LINKS}
use Rattle.cut_model.specs.Net.{Net, IsInLimits}
use Rattle.cut_model.specs.Flow.{IsWithinCaps}
use Rattle.residual_graph.specs.Arcs.{link_of}

-- The room for routers and links, the network that is held, and the flow on each of its links.
pub record ResidualView : Type 0 where
  pub room_routers : ℕ
  pub room_links : ℕ
  pub net : Net
  pub flow : List ℤ

-- The network is within its limits and fits the room, and the flow is within its capacities.
pub record IsSound (view : ResidualView) : Type 0 where
  pub routers : view.net.routers ≤ view.room_routers
  pub links : length view.net.links ≤ view.room_links
  pub room_routers : view.room_routers ≤ MOST_ROUTERS
  pub room_links : view.room_links ≤ MOST_LINKS
  pub limits : IsInLimits view.net
  pub within : IsWithinCaps view.net.links view.flow

-- The flow of a link by any of its two arcs, positive from the link's end a to its end b.
abbrev pub flow_of : List ℤ → ℕ → ℤ
flow_of flow arc = slice_index_or flow (arc / 2) (pos 0)

-- What is left on an arc: the capacity less the flow along it.
unfoldable pub left_on : ResidualView → ℕ → ℤ
left_on view arc =
    let cap = pos (link_of view.net.links arc).cap in
    if arc % 2 == 0 then cap -ℤ flow_of view.flow arc else cap +ℤ flow_of view.flow arc

-- An amount along an arc, as a flow on its link.
abbrev pub along : ℕ → ℕ → ℤ
along arc amount = if arc % 2 == 0 then pos amount else neg_ℤ (pos amount)

-- A flow with an amount more along an arc.
unfoldable pub pushed : List ℤ → ℕ → ℕ → List ℤ
pushed flow arc amount = slice_set flow (arc / 2) (flow_of flow arc +ℤ along arc amount)
