-- Small networks that seeds make, and what they are summed up by, by computing.
use Rattle.std.proofs.Common.{◌≡◌, ℕ, zero, suc, ◌≤◌, [], ◌∷◌, arith, codes, map, refl}
use Rattle.std.specs.List.{range_with_len}
use Rattle.std.specs.Fmt.{digits}
use Rattle.cut_model.specs.Cuts.{cut_value}
use Rattle.cut_model.specs.Lambda.{lambda}
use Rattle.cut_model.specs.Net.{Net}
use Rattle.made_networks.specs.Draws.{draw, link_after, made_links, made_net}
use Rattle.made_networks.specs.Summaries.{ArePair, IsSummaryOf, sum_from_first, summary_text}
use Rattle.made_networks.specs.declared.summary.Summary.{Summary}

-- The draws of the seed 7.
draws_of_seven : map (draw 7) (range_with_len 1 9)
    ≡ 599 ∷ 44999 ∷ 32612 ∷ 21105 ∷ 10061 ∷ 33742 ∷ 40318 ∷ 9222 ∷ 36354 ∷ []
unfolding draw
draws_of_seven = refl

-- The network of three routers and three links of that seed.
abbrev triangle : Net
triangle = record {
  routers = 3;
  links = record { a = 2; b = 2; cap = 613 } ∷ record { a = 0; b = 2; cap = 743 }
      ∷ record { a = 1; b = 0; cap = 355 } ∷ [];
}

made_of_seven : made_net 7 3 3 ≡ triangle
unfolding draw link_after made_links
made_of_seven = refl

-- Two routers and one link of the seed 0.
made_of_nought : made_net 0 2 1 ≡ record { routers = 2; links = record { a = 0; b = 0; cap = 653 } ∷ [] }
unfolding draw link_after made_links
made_of_nought = refl

-- Two of its routers, and those turned, are parted by no less than 355.
least : (a b : ℕ) → ArePair triangle a b → 355 ≤ lambda triangle a b
unfolding cut_value lambda
least zero zero pair = absurd (pair.differ refl)
least zero (suc zero) pair = omega arith
least zero (suc (suc zero)) pair = omega arith
least (suc zero) zero pair = omega arith
least (suc zero) (suc zero) pair = absurd (pair.differ refl)
least (suc zero) (suc (suc zero)) pair = omega arith
least (suc (suc zero)) zero pair = omega arith
least (suc (suc zero)) (suc zero) pair = omega arith
least (suc (suc zero)) (suc (suc zero)) pair = absurd (pair.differ refl)
least (suc (suc (suc a))) b pair = absurd (omega (arith, pair.first))
least a (suc (suc (suc b))) pair = absurd (omega (arith, pair.second))

-- What it is summed up by.
abbrev summary : Summary
summary = record { routers = 3; links = 3; least = 355; sum = 1098 }

summed_up : IsSummaryOf triangle summary
unfolding cut_value lambda sum_from_first
summed_up = record {
  routers_are = refl;
  links_are = refl;
  least_is = record {
    one = 0;
    other = 1;
    pair = record { first = omega arith; second = omega arith; differ = λ same. cc };
    value = refl;
    least = least;
  };
  sum_is = refl;
}

-- Its summary as a text.
text : summary_text summary ≡ codes "made routers 3 links 3\nleast 355\nsum 1098\n"
unfolding digits summary_text
text = refl
