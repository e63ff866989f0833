-- Sets of routers that lists of truth values show.
use Rattle.std.specs.Prelude.{◌≡◌, ℕ, ◌<◌, Bool, List, length}
use Rattle.cut_model.specs.Cuts.{RouterSet, set_of}

-- A list of n truth values shows a set: below n it holds just the routers of the set.
pub record ShowsSet (n : ℕ) (X : RouterSet) (side : List Bool) : Type 0 where
  pub size : length side ≡ n
  pub shows : (r : ℕ) → r < n → set_of side r ≡ X r
