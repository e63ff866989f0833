-- How a network and a flow on it are stored.
use Rattle.std.specs.Prelude.{◌≡◌, ℕ, ◌+◌, ◌*◌, ◌<◌, ◌≤◌, false, ℤ, pos, ◌-ℤ◌}
use Rattle.std.specs.Prelude.{All, List, length, map, slice_index, slice_index_or, take}
use Rattle.std.specs.List.{range_with_len}
use Rattle.cut_model.specs.declared.network.TheConstants.{MOST_ROUTERS, MOST_LINKS}
use Rattle.cut_model.specs.declared.network.Link.{Link}
use Rattle.cut_model.specs.Net.{Net, IsInLimits}
use Rattle.residual_graph.specs.Arcs.{no_link}
use Rattle.residual_graph.specs.Fills.{HasCapsBut}
use Rattle.residual_graph.specs.Indexed.{IsIndexed}
use Rattle.residual_graph.specs.Touched.{Touches}
use Rattle.residual_graph.specs.View.{ResidualView}
use Rattle.residual_graph.specs.declared.place.Place.{Place}

-- The flow on link i: its capacity less what is left on its first arc.
abbrev pub flow_at : List Link → List ℕ → ℕ → ℤ
flow_at links left i = pos (slice_index_or links i no_link).cap -ℤ pos (slice_index left (2 * i))

-- The flows on the links.
unfoldable pub flows_at : List Link → List ℕ → List ℤ
flows_at links left = map (flow_at links left) (range_with_len 0 (length links))

-- The lists of a residual graph, with the room for routers and links, and how much of it the network takes.
pub record Lists : Type 0 where
  pub room_routers : ℕ
  pub room_links : ℕ
  pub routers : ℕ
  pub links : ℕ
  pub first : List ℕ
  pub places : List Place
  pub kept : List Link
  pub left : List ℕ
  pub touched : Touches

-- The network that the lists hold: its links are the first of the kept ones.
abbrev pub net_in : Lists → Net
net_in lists = record { routers = lists.routers; links = take lists.links lists.kept }

-- What the stored lists mean.
unfoldable pub view_of : Lists → ResidualView
view_of lists = record {
  room_routers = lists.room_routers;
  room_links = lists.room_links;
  net = net_in lists;
  flow = flows_at (net_in lists).links lists.left;
}

-- The two arcs of each link have twice its capacity left together.
abbrev pub ArePairs : List Link → List ℕ → Type 0
ArePairs links left =
    (i : ℕ) → i < length links →
    slice_index left (2 * i) + slice_index left (2 * i + 1) ≡ 2 * (slice_index_or links i no_link).cap

-- The lists fill the room, their network is within its limits and fits the room, the two arcs of each link
-- have twice its capacity left together, the index is that of the network, and each link that carries
-- flow is listed among the touched ones, unless all are taken as touched.
pub record IsStored (lists : Lists) : Type 0 where
  pub few_routers : lists.room_routers ≤ MOST_ROUTERS
  pub few_links : lists.room_links ≤ MOST_LINKS
  pub routers_fit : lists.routers ≤ lists.room_routers
  pub links_fit : lists.links ≤ lists.room_links
  pub first_room : length lists.first ≡ lists.room_routers + 1
  pub places_room : length lists.places ≡ 2 * lists.room_links
  pub kept_room : length lists.kept ≡ lists.room_links
  pub left_room : length lists.left ≡ 2 * lists.room_links
  pub limits : IsInLimits (net_in lists)
  pub pairs : ArePairs (net_in lists).links lists.left
  pub indexed : IsIndexed (net_in lists) lists.first lists.places
  pub touched_inside : All (λ i. i < lists.links) lists.touched.links
  pub touched_all : lists.touched.all ≡ false → HasCapsBut (net_in lists).links lists.left lists.touched.links
