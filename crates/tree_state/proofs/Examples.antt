-- The tables of the six routers' history, by computing.
use Rattle.std.proofs.Common.{◌≡◌, ℕ, true, false, List, [], ◌∷◌, map, take, refl}
use Rattle.tree_state.specs.declared.entry.Entry.{Entry}
use Rattle.tree_state.specs.Tables.{up_after, width_after, some_up, below}
use Rattle.tree_state.specs.History.{tables, entered}
use Rattle.tree_state.specs.Moves.{moves_from, moves, sum_over, most_moves}

-- the six routers
six : List ℕ
six = 0 ∷ 1 ∷ 2 ∷ 3 ∷ 4 ∷ 5 ∷ []

-- the history in which they are committed in the order of their numbers
history : List Entry
history =
    record { router = 1; neighbour = 0; value = 6; side = false ∷ true ∷ false ∷ true ∷ true ∷ true ∷ [] }
    ∷ record { router = 2; neighbour = 0; value = 8; side = false ∷ true ∷ true ∷ true ∷ true ∷ true ∷ [] }
    ∷ record { router = 3; neighbour = 1; value = 6; side = false ∷ false ∷ false ∷ true ∷ false ∷ true ∷ [] }
    ∷ record { router = 4; neighbour = 1; value = 7; side = true ∷ false ∷ true ∷ false ∷ true ∷ false ∷ [] }
    ∷ record { router = 5; neighbour = 3; value = 8; side = false ∷ false ∷ false ∷ false ∷ false ∷ true ∷ [] }
    ∷ []

-- the first commit hangs three routers from the first one
ups_after_one : map (tables 0 (take 1 history)).up six ≡ 0 ∷ 0 ∷ 0 ∷ 1 ∷ 1 ∷ 1 ∷ []
unfolding tables up_after history six
ups_after_one = refl

-- the second one moves a router that is committed already, with its width
ups_after_two : map (tables 0 (take 2 history)).up six ≡ 0 ∷ 2 ∷ 0 ∷ 1 ∷ 1 ∷ 1 ∷ []
unfolding tables up_after history six
ups_after_two = refl

widths_after_two : map (tables 0 (take 2 history)).width six ≡ 0 ∷ 6 ∷ 8 ∷ 0 ∷ 0 ∷ 0 ∷ []
unfolding tables up_after width_after history six
widths_after_two = refl

-- the fourth one swaps its router with its neighbour
ups_after_four : map (tables 0 (take 4 history)).up six ≡ 0 ∷ 4 ∷ 0 ∷ 1 ∷ 2 ∷ 3 ∷ []
unfolding tables up_after history six
ups_after_four = refl

-- the whole tree
ups : map (tables 0 history).up six ≡ 0 ∷ 4 ∷ 0 ∷ 1 ∷ 2 ∷ 3 ∷ []
unfolding tables up_after history six
ups = refl

widths : map (tables 0 history).width six ≡ 0 ∷ 7 ∷ 8 ∷ 6 ∷ 6 ∷ 8 ∷ []
unfolding tables up_after width_after history six
widths = refl

-- who is entered
all_but_zero : map (entered history) six ≡ false ∷ true ∷ true ∷ true ∷ true ∷ true ∷ []
unfolding entered history six
all_but_zero = refl

-- what is below the router that was swapped up
below_four : map (below 6 (tables 0 history).up 4) six ≡ false ∷ true ∷ false ∷ true ∷ true ∷ true ∷ []
unfolding tables up_after history six some_up
below_four = refl

-- below the root are all
below_zero : map (below 6 (tables 0 history).up 0) six ≡ true ∷ true ∷ true ∷ true ∷ true ∷ true ∷ []
unfolding tables up_after history six some_up
below_zero = refl

-- below a router from which nothing hangs is it alone
below_five : map (below 6 (tables 0 history).up 5) six ≡ false ∷ false ∷ false ∷ false ∷ false ∷ true ∷ []
unfolding tables up_after history six some_up
below_five = refl

-- how often each router moves before it is entered: the last one with the first commit and with its neighbour's own
moves_of_six : map (moves 0 history) six ≡ 0 ∷ 0 ∷ 0 ∷ 1 ∷ 1 ∷ 2 ∷ []
unfolding moves_from up_after history six
moves_of_six = refl

-- four moves in all, of ten that six terminals may make
moves_together : sum_over (λ router. true) (moves 0 history) 6 ≡ 4
unfolding sum_over moves_from up_after history
moves_together = refl

most_of_six : most_moves 6 ≡ 10
most_of_six = refl
