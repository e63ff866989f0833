-- The definitions on small networks, by computing.
use Rattle.std.proofs.Common.{◌≡◌, ℕ, List, [], ◌∷◌, true, false, Some, None, refl}
use Rattle.std.specs.Prelude.{ℤ, pos, negsuc}
use Rattle.cut_model.specs.declared.network.Link.{Link}
use Rattle.cut_model.specs.declared.network.NetFault.TheVariants.{NoRouter, TooManyRouters, EndOutside, CapTooLarge}
use Rattle.cut_model.specs.Net.{Net, net_fault}
use Rattle.cut_model.specs.Cuts.{cut_value, set_of}
use Rattle.cut_model.specs.Lambda.{lambda}
use Rattle.cut_model.specs.Flow.{out}

-- a link by its ends and its capacity
joins : ℕ → ℕ → ℕ → Link
joins a b cap = record { a = a; b = b; cap = cap }

-- ---- six routers and nine links

six : Net
unfolding joins
six = record {
  routers = 6;
  links =
      joins 0 1 1 ∷ joins 0 2 7 ∷ joins 1 2 1 ∷ joins 1 3 3 ∷ joins 1 4 2 ∷ joins 2 4 4 ∷ joins 3 4 1 ∷ joins 3 5 6
      ∷ joins 4 5 2 ∷ [];
}

side_of_one : cut_value six (set_of (false ∷ true ∷ false ∷ true ∷ true ∷ true ∷ [])) ≡ 6
unfolding cut_value six joins
side_of_one = refl

-- the least cuts of routers 0 and 5, and of routers 1 and 4
lambda_zero_five : lambda six 0 5 ≡ 6
unfolding lambda cut_value six joins
lambda_zero_five = refl

lambda_one_four : lambda six 1 4 ≡ 7
unfolding lambda cut_value six joins
lambda_one_four = refl

all_but_zero : cut_value six (set_of (false ∷ true ∷ true ∷ true ∷ true ∷ true ∷ [])) ≡ 8
unfolding cut_value six joins
all_but_zero = refl

other_side : cut_value six (set_of (true ∷ false ∷ true ∷ [])) ≡ 6
unfolding cut_value six joins
other_side = refl

-- ---- parallel, self and empty links

parallel : Net
unfolding joins
parallel = record { routers = 3; links = joins 0 1 2 ∷ joins 0 1 3 ∷ joins 0 0 9 ∷ joins 1 2 0 ∷ joins 1 2 1 ∷ [] }

both_parallels : cut_value parallel (set_of (true ∷ [])) ≡ 5
unfolding cut_value parallel joins
both_parallels = refl

beyond_an_empty_link : cut_value parallel (set_of (true ∷ true ∷ [])) ≡ 1
unfolding cut_value parallel joins
beyond_an_empty_link = refl

-- ---- a flow of 1 from 2 to 0, against the direction of its links

back : List ℤ
back = negsuc 0 ∷ pos 0 ∷ pos 7 ∷ pos 0 ∷ negsuc 0 ∷ []

sent_out : out 2 parallel.links back ≡ pos 1
unfolding parallel joins back
sent_out = refl

passed_on : out 1 parallel.links back ≡ pos 0
unfolding parallel joins back
passed_on = refl

taken_in : out 0 parallel.links back ≡ negsuc 0
unfolding parallel joins back
taken_in = refl

-- ---- faults

no_router : net_fault 0 [] ≡ Some NoRouter
no_router = refl

too_many_routers : net_fault 1025 (joins 0 1025 1 ∷ []) ≡ Some TooManyRouters
unfolding joins
too_many_routers = refl

outside_before_large : net_fault 2 (joins 0 1 1000000000001 ∷ joins 0 5 1 ∷ []) ≡ Some (EndOutside 1)
unfolding joins
outside_before_large = refl

too_large : net_fault 2 (joins 0 1 1000000000001 ∷ []) ≡ Some (CapTooLarge 0)
unfolding joins
too_large = refl

lone_router : net_fault 1 (joins 0 0 3 ∷ []) ≡ None
unfolding joins
lone_router = refl
