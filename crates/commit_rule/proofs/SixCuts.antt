-- Least cuts of the routers over which the rule is tried by call. No set that parts two of them costs less, by going
-- through the other routers.
use Rattle.std.proofs.Common.{◌≡◌, ◌≤◌, true, false, [], ◌∷◌, refl, arith}
use Rattle.std.proofs.lemmas.Bool.{cases_Bool}
use Rattle.cut_model.specs.Cuts.{RouterSet, cut_value, set_of, IsLeastCut}
use Rattle.commit_rule.specs.SixRouters.{six_routers, two_routers}

-- what a set costs that holds 1 and lacks 0
parting_one : (Y : RouterSet) → Y 1 ≡ true → Y 0 ≡ false → 6 ≤ cut_value six_routers Y
unfolding cut_value
parting_one Y holds lacks =
    rw (holds, lacks) (grind (arith, cases_Bool (Y 2), cases_Bool (Y 3), cases_Bool (Y 4), cases_Bool (Y 5)))

-- router 1 is cut from 0
pub cut_of_one : IsLeastCut six_routers 1 0 (set_of (false ∷ true ∷ false ∷ true ∷ true ∷ true ∷ [])) 6
unfolding cut_value
cut_of_one = record { holds = refl; lacks = refl; value = refl; least = parting_one }

-- what a set costs that holds 2 and lacks 0
parting_two : (Y : RouterSet) → Y 2 ≡ true → Y 0 ≡ false → 8 ≤ cut_value six_routers Y
unfolding cut_value
parting_two Y holds lacks =
    rw (holds, lacks) (grind (arith, cases_Bool (Y 1), cases_Bool (Y 3), cases_Bool (Y 4), cases_Bool (Y 5)))

-- router 2 is cut from 0
pub cut_of_two : IsLeastCut six_routers 2 0 (set_of (false ∷ true ∷ true ∷ true ∷ true ∷ true ∷ [])) 8
unfolding cut_value
cut_of_two = record { holds = refl; lacks = refl; value = refl; least = parting_two }

-- what a set costs that holds 3 and lacks 0
parting_three : (Y : RouterSet) → Y 3 ≡ true → Y 0 ≡ false → 6 ≤ cut_value six_routers Y
unfolding cut_value
parting_three Y holds lacks =
    rw (holds, lacks) (grind (arith, cases_Bool (Y 1), cases_Bool (Y 2), cases_Bool (Y 4), cases_Bool (Y 5)))

-- router 3 is cut from 0
pub cut_of_three : IsLeastCut six_routers 3 0 (set_of (false ∷ false ∷ false ∷ true ∷ false ∷ true ∷ [])) 6
unfolding cut_value
cut_of_three = record { holds = refl; lacks = refl; value = refl; least = parting_three }

-- what a set costs that holds 3 and lacks 1
parting_three_anew : (Y : RouterSet) → Y 3 ≡ true → Y 1 ≡ false → 6 ≤ cut_value six_routers Y
unfolding cut_value
parting_three_anew Y holds lacks =
    rw (holds, lacks) (grind (arith, cases_Bool (Y 0), cases_Bool (Y 2), cases_Bool (Y 4), cases_Bool (Y 5)))

-- router 3 is cut from 1 by the same set
pub cut_of_three_anew : IsLeastCut six_routers 3 1 (set_of (false ∷ false ∷ false ∷ true ∷ false ∷ true ∷ [])) 6
unfolding cut_value
cut_of_three_anew = record { holds = refl; lacks = refl; value = refl; least = parting_three_anew }

-- what a set costs that holds 4 and lacks 1
parting_four : (Y : RouterSet) → Y 4 ≡ true → Y 1 ≡ false → 7 ≤ cut_value six_routers Y
unfolding cut_value
parting_four Y holds lacks =
    rw (holds, lacks) (grind (arith, cases_Bool (Y 0), cases_Bool (Y 2), cases_Bool (Y 3), cases_Bool (Y 5)))

-- router 4 is cut from 1
pub cut_of_four : IsLeastCut six_routers 4 1 (set_of (true ∷ false ∷ true ∷ false ∷ true ∷ false ∷ [])) 7
unfolding cut_value
cut_of_four = record { holds = refl; lacks = refl; value = refl; least = parting_four }

-- what a set costs that holds 5 and lacks 3
parting_five : (Y : RouterSet) → Y 5 ≡ true → Y 3 ≡ false → 8 ≤ cut_value six_routers Y
unfolding cut_value
parting_five Y holds lacks =
    rw (holds, lacks) (grind (arith, cases_Bool (Y 0), cases_Bool (Y 1), cases_Bool (Y 2), cases_Bool (Y 4)))

-- router 5 is cut from 3
pub cut_of_five : IsLeastCut six_routers 5 3 (set_of (false ∷ false ∷ false ∷ false ∷ false ∷ true ∷ [])) 8
unfolding cut_value
cut_of_five = record { holds = refl; lacks = refl; value = refl; least = parting_five }

-- what a set costs that parts two routers with a link
parting_two_routers : (Y : RouterSet) → Y 1 ≡ true → Y 0 ≡ false → 5 ≤ cut_value two_routers Y
unfolding cut_value
parting_two_routers Y holds lacks = rw (holds, lacks) (omega arith)

-- these are cut by the link
pub cut_of_two_routers : IsLeastCut two_routers 1 0 (set_of (false ∷ true ∷ [])) 5
unfolding cut_value
cut_of_two_routers = record { holds = refl; lacks = refl; value = refl; least = parting_two_routers }
