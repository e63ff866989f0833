-- A chain of three routers, by computing: the least side of one end, turned over, isn't the least side of the other.
use Rattle.std.proofs.Common.{◌≡◌, ◌≤◌, true, false, [], ◌∷◌, refl, arith}
use Rattle.std.proofs.lemmas.Bool.{cases_Bool}
use Rattle.cut_model.specs.Net.{Net}
use Rattle.cut_model.specs.Cuts.{RouterSet, cut_value, set_of, IsLeastCut, IsLeastSide}

-- the routers 0, 1 and 2 in a row, with links of one capacity
chain : Net
chain = record {
  routers = 3;
  links = record { a = 0; b = 1; cap = 5 } ∷ record { a = 1; b = 2; cap = 5 } ∷ [];
}

-- router 0 alone
first : RouterSet
first = set_of (true ∷ false ∷ false ∷ [])

-- router 2 alone, which is the least side of 2
last : RouterSet
last = set_of (false ∷ false ∷ true ∷ [])

-- the least side of 2, turned over: all routers but 2
turned : RouterSet
turned = set_of (true ∷ true ∷ false ∷ [])

-- what a set costs that holds 0 and lacks 2
parting_first : (Y : RouterSet) → Y 0 ≡ true → Y 2 ≡ false → 5 ≤ cut_value chain Y
unfolding cut_value chain
parting_first Y holds lacks = rw (holds, lacks) (grind (arith, cases_Bool (Y 1)))

-- what a set costs that holds 2 and lacks 0
parting_last : (Y : RouterSet) → Y 2 ≡ true → Y 0 ≡ false → 5 ≤ cut_value chain Y
unfolding cut_value chain
parting_last Y holds lacks = rw (holds, lacks) (grind (arith, cases_Bool (Y 1)))

-- no cut of 2 from 0 lacks router 2, so that it alone is the least side
least_of_last : IsLeastSide chain 2 0 last 5
unfolding cut_value chain last
least_of_last = record {
  cut = record { holds = refl; lacks = refl; value = refl; least = parting_last };
  part = λ Y cut r small inside. grind (arith, inside, cut.holds);
}

-- turned over, this is a least cut of 0 from 2
turned_is_cut : IsLeastCut chain 0 2 turned 5
unfolding cut_value chain turned
turned_is_cut = record { holds = refl; lacks = refl; value = refl; least = parting_first }

-- so is router 0 alone
first_is_cut : IsLeastCut chain 0 2 first 5
unfolding cut_value chain first
first_is_cut = record { holds = refl; lacks = refl; value = refl; least = parting_first }

-- but it isn't the least side of 0, since router 1 isn't in every such cut: so a desk that turns the least side of t
-- over breaks its promise
turned_is_not_least : IsLeastSide chain 0 2 turned 5 → ⊥
unfolding chain first turned
turned_is_not_least least = let inside : false ≡ true = least.part first first_is_cut 1 (omega arith) refl in cc
