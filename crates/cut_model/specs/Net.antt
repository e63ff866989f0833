-- Networks and their limits.
use Rattle.std.specs.Prelude.{ℕ, ◌<◌, ◌≤◌, Bool, ◌||◌, ◌==◌, nat_lt, nat_le}
use Rattle.std.specs.Prelude.{List, length, All, position, Some, None, if◌then◌else◌}
use Rattle.std.specs.declared.option.Option.{Option}
use Rattle.cut_model.specs.declared.network.Link.{Link}
use Rattle.cut_model.specs.declared.network.TheConstants.{MOST_ROUTERS, MOST_LINKS, MOST_CAPACITY}
use Rattle.cut_model.specs.declared.network.NetFault.{NetFault}
use Rattle.cut_model.specs.declared.network.NetFault.TheVariants.{NoRouter, TooManyRouters, TooManyLinks}
use Rattle.cut_model.specs.declared.network.NetFault.TheVariants.{EndOutside, CapTooLarge}

-- A network is a number of routers and a list of links.
pub record Net : Type 0 where
  pub routers : ℕ
  pub links : List Link

-- A link joins two routers below the number, and its capacity is at most the greatest.
pub record IsLink (routers : ℕ) (link : Link) : Type 0 where
  pub a : link.a < routers
  pub b : link.b < routers
  pub cap : link.cap ≤ MOST_CAPACITY

-- A network is within the limits: it has a router and not too many, and not too many links, each of which is one among
-- its routers.
pub record IsInLimits (net : Net) : Type 0 where
  pub some : 0 < net.routers
  pub few_routers : net.routers ≤ MOST_ROUTERS
  pub few_links : length net.links ≤ MOST_LINKS
  pub within : All (IsLink net.routers) net.links

-- An end of the link is no router below the number.
abbrev pub has_end_outside : ℕ → Link → Bool
has_end_outside routers link = nat_le routers link.a || nat_le routers link.b

-- The capacity of the link is above the greatest.
abbrev pub has_large_cap : Link → Bool
has_large_cap link = nat_lt MOST_CAPACITY link.cap

-- The fault of the first link that reaches outside, or else of the first too large one, by their places.
abbrev pub place_fault : Option ℕ → Option ℕ → Option NetFault
place_fault (Some outside) large = Some (EndOutside outside)
place_fault None (Some large) = Some (CapTooLarge large)
place_fault None None = None

-- The fault of links that aren't too many.
abbrev pub links_fault : ℕ → List Link → Option NetFault
links_fault routers links = place_fault (position (has_end_outside routers) links) (position has_large_cap links)

-- The first fault of a number of routers and a list of links, in the order in which faults are listed.
abbrev pub net_fault : ℕ → List Link → Option NetFault
net_fault routers links =
    if routers == 0 then Some NoRouter else
    if nat_lt MOST_ROUTERS routers then Some TooManyRouters else
    if nat_lt MOST_LINKS (length links) then Some TooManyLinks else
    links_fault routers links
