-- What a network is summed up by: two numbers that the least cuts of its pairs of routers decide.
use Rattle.std.specs.Prelude.{◌≡◌, ◌≢◌, ℕ, ◌-◌, ◌<◌, ◌≤◌, List, [], ◌∷◌, codes, decimal, length, map}
use Rattle.std.specs.List.{concat, range_with_len, sum}
use Rattle.cut_model.specs.Lambda.{lambda}
use Rattle.cut_model.specs.Net.{Net}
use Rattle.made_networks.specs.declared.summary.Summary.{Summary}

-- Two routers of a network that differ.
pub record ArePair (net : Net) (a b : ℕ) : Type 0 where
  pub first : a < net.routers
  pub second : b < net.routers
  pub differ : a ≢ b

-- What the least cuts of two routers cost is never less than the width, and for some two it is the width.
pub record IsLeastOfPairs (net : Net) (width : ℕ) : Type 0 where
  pub one : ℕ
  pub other : ℕ
  pub pair : ArePair net one other
  pub value : lambda net one other ≡ width
  pub least : (a b : ℕ) → ArePair net a b → width ≤ lambda net a b

-- What the least cuts of router 0 and each of the routers from 1 to a last one cost, together.
unfoldable pub sum_from_first : Net → ℕ → ℕ
sum_from_first net last = sum (map (lambda net 0) (range_with_len 1 last))

-- A summary is that of a network.
pub record IsSummaryOf (net : Net) (summary : Summary) : Type 0 where
  pub routers_are : summary.routers ≡ net.routers
  pub links_are : summary.links ≡ length net.links
  pub least_is : IsLeastOfPairs net summary.least
  pub sum_is : summary.sum ≡ sum_from_first net (net.routers - 1)

-- A network has one summary.
abbrev pub SummaryIsOne : Type 0
SummaryIsOne = (net : Net) (one other : Summary) → IsSummaryOf net one → IsSummaryOf net other → one ≡ other

-- The text of a summary: three lines.
unfoldable pub summary_text : Summary → List ℕ
summary_text summary = concat (codes "made routers " ∷ decimal summary.routers ∷ codes " links " ∷ decimal summary.links
    ∷ codes "\nleast " ∷ decimal summary.least ∷ codes "\nsum " ∷ decimal summary.sum ∷ codes "\n" ∷ [])
