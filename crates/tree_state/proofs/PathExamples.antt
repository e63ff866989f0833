-- Paths and the sides of their edges on a small tree, by computing.
use Rattle.std.proofs.Common.{◌≡◌, ℕ, true, false, List, [], ◌∷◌, map, refl}
use Rattle.std.specs.Prelude.{slice_index}
use Rattle.tree_state.specs.Tables.{Table, some_up}
use Rattle.tree_state.specs.Paths.{parts, side_for}

-- Routers 1 and 3 hang from the root 0, and 2 hangs from 1.
up : Table
up = slice_index (0 ∷ 0 ∷ 1 ∷ 0 ∷ [])

-- all routers, in number order
routers : List ℕ
routers = 0 ∷ 1 ∷ 2 ∷ 3 ∷ []

-- the path of 2 and 3 goes over the root: 2 and 1 hang on the one side of it, 3 on the other
over_the_root : map (parts 4 up 2 3) routers ≡ false ∷ true ∷ true ∷ true ∷ []
unfolding up routers some_up
over_the_root = refl

-- the path of 2 and the root is the way up of 2
straight_up : map (parts 4 up 2 0) routers ≡ false ∷ true ∷ true ∷ false ∷ []
unfolding up routers some_up
straight_up = refl

-- the path of 1 and 2 is the edge above 2
one_edge : map (parts 4 up 1 2) routers ≡ false ∷ false ∷ true ∷ false ∷ []
unfolding up routers some_up
one_edge = refl

-- no edge is on the path of a router and itself
from_a_router_to_itself : map (parts 4 up 2 2) routers ≡ false ∷ false ∷ false ∷ false ∷ []
unfolding up routers some_up
from_a_router_to_itself = refl

-- the side of the edge above 1 that holds 2 is what is below 1
side_with_what_is_below : map (side_for 4 up 2 1) routers ≡ false ∷ true ∷ true ∷ false ∷ []
unfolding up routers some_up
side_with_what_is_below = refl

-- and the one that holds 3 is all the rest
side_with_all_others : map (side_for 4 up 3 1) routers ≡ true ∷ false ∷ false ∷ true ∷ []
unfolding up routers some_up
side_with_all_others = refl
