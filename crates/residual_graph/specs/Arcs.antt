-- The arcs of a network: link i gives arc 2i from its end a to its end b, and arc 2i + 1 back.
use Rattle.std.specs.Prelude.{ℕ, ◌+◌, ◌-◌, ◌*◌, ◌/◌, ◌%◌, ◌==◌, Bool}
use Rattle.std.specs.Prelude.{List, length, filter, slice_index_or, if◌then◌else◌}
use Rattle.std.specs.List.{range_with_len}
use Rattle.cut_model.specs.declared.network.Link.{Link}
use Rattle.cut_model.specs.Net.{Net}

-- A link of no capacity.
abbrev pub no_link : Link
no_link = record { a = 0; b = 0; cap = 0 }

-- The link of an arc, and a link of no capacity where there is no such arc.
abbrev pub link_of : List Link → ℕ → Link
link_of links arc = slice_index_or links (arc / 2) no_link

-- The router that an arc of these links leaves.
unfoldable pub tail_in : List Link → ℕ → ℕ
tail_in links arc = if arc % 2 == 0 then (link_of links arc).a else (link_of links arc).b

-- The router to which an arc of these links goes.
unfoldable pub head_in : List Link → ℕ → ℕ
head_in links arc = if arc % 2 == 0 then (link_of links arc).b else (link_of links arc).a

-- The router that an arc of a network leaves.
abbrev pub tail_of : Net → ℕ → ℕ
tail_of net arc = tail_in net.links arc

-- The router to which an arc of a network goes.
abbrev pub head_of : Net → ℕ → ℕ
head_of net arc = head_in net.links arc

-- The number of arcs of a network.
abbrev pub arc_count : Net → ℕ
arc_count net = 2 * length net.links

-- The arcs that leave a router, in ascending order.
unfoldable pub arcs_from : Net → ℕ → List ℕ
arcs_from net router = filter (λ arc. tail_of net arc == router) (range_with_len 0 (arc_count net))

-- The arc of the same link the other way.
unfoldable pub twin : ℕ → ℕ
twin arc = if arc % 2 == 0 then arc + 1 else arc - 1

-- An arc, or its twin where it is to be turned.
abbrev pub turned : Bool → ℕ → ℕ
turned back arc = if back then twin arc else arc

-- The capacity of an arc's link.
abbrev pub cap_of : Net → ℕ → ℕ
cap_of net arc = (link_of net.links arc).cap
