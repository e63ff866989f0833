-- The definitions on a small network, by computing: two parallel links, a self link, and one more.
use Rattle.std.proofs.Common.{◌≡◌, ℕ, true, [], ◌∷◌, refl}
use Rattle.std.specs.Prelude.{pos, negsuc}
use Rattle.cut_model.specs.declared.network.Link.{Link}
use Rattle.cut_model.specs.Net.{Net}
use Rattle.residual_graph.specs.Arcs.{tail_in, head_in, tail_of, head_of, arcs_from, turned, twin}
use Rattle.residual_graph.specs.Places.{arcs_below, begin_of, place_at}
use Rattle.residual_graph.specs.View.{ResidualView, left_on, pushed}

-- a link by its ends and its capacity
joins : ℕ → ℕ → ℕ → Link
joins a b cap = record { a = a; b = b; cap = cap }

-- three routers, two parallel links, a link from router 1 to itself, and one from router 2
small : Net
unfolding joins
small = record { routers = 3; links = joins 0 1 2 ∷ joins 0 1 3 ∷ joins 1 1 9 ∷ joins 2 1 4 ∷ [] }

-- a flow of 1 on the first link, and of 4 against the direction of the last
held : ResidualView
unfolding small
held = record { room_routers = 3; room_links = 4; net = small; flow = pos 1 ∷ pos 0 ∷ pos 0 ∷ negsuc 3 ∷ [] }

-- the arc there of the last link leaves router 2
there : tail_of small 6 ≡ 2
unfolding tail_in small joins
there = refl

-- its arc back goes there
back : head_of small 7 ≡ 2
unfolding head_in small joins
back = refl

-- a self link has both of its arcs at its router
own_arcs : arcs_from small 1 ≡ 1 ∷ 3 ∷ 4 ∷ 5 ∷ 7 ∷ []
unfolding arcs_from tail_in small joins
own_arcs = refl

-- of capacity 2, 1 is carried, so 1 is left on the arc there of the first link
left_there : left_on held 0 ≡ pos 1
unfolding left_on held small joins
left_there = refl

-- and 3 on its arc back
left_back : left_on held 1 ≡ pos 3
unfolding left_on held small joins
left_back = refl

-- nothing is left on the arc along which the last link is full
nothing_left : left_on held 7 ≡ pos 0
unfolding left_on held small joins
nothing_left = refl

-- a push along an arc back lessens the flow
less : pushed (pos 1 ∷ pos 5 ∷ []) 3 2 ≡ pos 1 ∷ pos 3 ∷ []
unfolding pushed
less = refl

-- the places of router 1 begin behind the two of router 0
first_place : begin_of small 1 ≡ 2
unfolding begin_of arcs_below arcs_from tail_in small joins
first_place = refl

-- the place of its last arc, which goes to router 2
last_place : place_at small 6 ≡ record { head = 2; arc = 7 }
unfolding place_at arcs_below arcs_from tail_in head_in small joins
last_place = refl

-- the arc back of the first link is the twin of the arc there
turned_back : turned true 0 ≡ 1
unfolding twin
turned_back = refl
