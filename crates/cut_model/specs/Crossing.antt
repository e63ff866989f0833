-- Sets of routers that cross, and the laws of what they cost.
use Rattle.std.specs.Prelude.{◌≡◌, ℕ, ◌+◌, ◌≤◌, true, false, not, ◌&&◌, ◌||◌}
use Rattle.cut_model.specs.Net.{Net}
use Rattle.cut_model.specs.Cuts.{RouterSet, cut_value, IsLeastCut}

infixl 70 ◌∩◌ ◌∖◌
infixl 65 ◌∪◌
-- The routers of both sets.
abbrev pub ◌∩◌ : RouterSet → RouterSet → RouterSet
X ∩ Y = λ router. X router && Y router

-- The routers of either set.
abbrev pub ◌∪◌ : RouterSet → RouterSet → RouterSet
X ∪ Y = λ router. X router || Y router

-- The routers of the first set that aren't in the second.
abbrev pub ◌∖◌ : RouterSet → RouterSet → RouterSet
X ∖ Y = λ router. X router && not (Y router)

-- All routers that aren't in a set.
abbrev pub outside : RouterSet → RouterSet
outside X = λ router. not (X router)

-- What two sets share and what they hold together cost no more than the two sets.
abbrev pub MeetAndJoinCostNoMore : Type 0
MeetAndJoinCostNoMore =
    (net : Net) (X Y : RouterSet) → cut_value net (X ∩ Y) + cut_value net (X ∪ Y) ≤ cut_value net X + cut_value net Y

-- What each of two sets has alone costs, together, no more than the two sets.
abbrev pub DifferencesCostNoMore : Type 0
DifferencesCostNoMore =
    (net : Net) (X Y : RouterSet) → cut_value net (X ∖ Y) + cut_value net (Y ∖ X) ≤ cut_value net X + cut_value net Y

-- A set costs as much as its complement.
abbrev pub ComplementCostsAsMuch : Type 0
ComplementCostsAsMuch = (net : Net) (X : RouterSet) → cut_value net (outside X) ≡ cut_value net X

-- All least cuts of one router from another cost the same.
abbrev pub LeastCutsCostTheSame : Type 0
LeastCutsCostTheSame =
    (net : Net) (s t j k : ℕ) (X Y : RouterSet) → IsLeastCut net s t X j → IsLeastCut net s t Y k → j ≡ k

-- The complement of a least cut of s from t is a least cut of t from s, at the same cost.
abbrev pub LeastCutTurnsOver : Type 0
LeastCutTurnsOver =
    (net : Net) (s t k : ℕ) (X : RouterSet) → IsLeastCut net s t X k → IsLeastCut net t s (outside X) k

-- A set that holds q takes in a least cut S of q from any t at no cost.
abbrev pub LeastCutJoinsFreely : Type 0
LeastCutJoinsFreely =
    (net : Net) (q t width : ℕ) (S X : RouterSet) → IsLeastCut net q t S width → X q ≡ true →
    cut_value net (X ∪ S) ≤ cut_value net X

-- A set that lacks q gives away a least cut S of q from any t at no cost.
abbrev pub LeastCutLeavesFreely : Type 0
LeastCutLeavesFreely =
    (net : Net) (q t width : ℕ) (S X : RouterSet) → IsLeastCut net q t S width → X q ≡ false →
    cut_value net (X ∖ S) ≤ cut_value net X
