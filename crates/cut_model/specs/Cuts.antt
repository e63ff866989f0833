-- Sets of routers, what they cost, and least cuts.
use Rattle.std.specs.Prelude.{◌≡◌, ℕ, ◌<◌, ◌≤◌, Bool, true, false, not}
use Rattle.std.specs.Prelude.{List, sum_by, slice_index_or, IsTrue, IsFalse, if◌then◌else◌}
use Rattle.cut_model.specs.declared.network.Link.{Link}
use Rattle.cut_model.specs.Net.{Net}

-- A set of routers, by whether each number is in it.
abbrev pub RouterSet : Type 0
RouterSet = ℕ → Bool

-- The set that a list of truth values holds, one value for each router; numbers past its end are out.
abbrev pub set_of : List Bool → RouterSet
set_of bits router = slice_index_or bits router false

-- Exactly one of the two holds.
abbrev pub differ : Bool → Bool → Bool
differ true b = not b
differ false b = b

-- What a link adds to the cost of a set: its capacity if exactly one of its ends is in the set.
abbrev pub across : RouterSet → Link → ℕ
across X link = if differ (X link.a) (X link.b) then link.cap else 0

-- The cost of a set of routers: the capacities of all links that leave it, together.
unfoldable pub cut_value : Net → RouterSet → ℕ
cut_value net X = sum_by (across X) net.links

-- X is a cut of s from t that costs k, and no set that holds s and lacks t costs less.
pub record IsLeastCut (net : Net) (s t : ℕ) (X : RouterSet) (k : ℕ) : Type 0 where
  pub holds : IsTrue (X s)
  pub lacks : IsFalse (X t)
  pub value : cut_value net X ≡ k
  pub least : (Y : RouterSet) → Y s ≡ true → Y t ≡ false → k ≤ cut_value net Y

-- X is a cut of s from t that costs k, none costs less, and each router of X is in every other such cut.
pub record IsLeastSide (net : Net) (s t : ℕ) (X : RouterSet) (k : ℕ) : Type 0 where
  pub cut : IsLeastCut net s t X k
  pub part : (Y : RouterSet) → IsLeastCut net s t Y k → (r : ℕ) → r < net.routers → X r ≡ true → Y r ≡ true
