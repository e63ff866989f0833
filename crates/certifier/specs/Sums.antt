-- Sums of a flow at routers.
use Rattle.std.specs.Prelude.{◌≡◌, ℕ, ◌*◌, ◌<◌, ◌≤◌, ◌==◌, ◌&&◌, ℤ, pos, ◌+ℤ◌, neg_ℤ, List, length, Bool, not}
use Rattle.std.specs.Prelude.{nat_abs, slice_index_or, slice_set}
use Rattle.std.specs.Ordering.{int_eq}
use Rattle.cut_model.specs.Flow.{out}
use Rattle.cut_model.specs.Net.{Net}
use Rattle.cut_model.specs.declared.network.Link.{Link}
use Rattle.cut_model.specs.declared.network.TheConstants.{MOST_CAPACITY, MOST_LINKS}

-- how many links have their value, and what they send out of each router
pub record SumsView : Type 0 where
  pub values : ℕ
  pub sums : List ℤ

-- the sum of a router
abbrev pub sum_at : List ℤ → ℕ → ℤ
sum_at sums router = slice_index_or sums router (pos 0)

-- no sum is more than twice what so many links can carry
pub record AreSmall (values : ℕ) (sums : List ℤ) : Type 0 where
  pub few : values ≤ MOST_LINKS
  pub small : (r : ℕ) → r < length sums → nat_abs (sum_at sums r) ≤ 2 * (values * MOST_CAPACITY)

-- a value is added to the sum of a router
abbrev pub with_end : ℕ → ℤ → List ℤ → List ℤ
with_end router value sums = slice_set sums router (sum_at sums router +ℤ value)

-- the sums with one value more: it comes to the other end, which sends it out no more
abbrev pub with_value : Link → ℤ → List ℤ → List ℤ
with_value link value sums = with_end link.b (neg_ℤ value) (with_end link.a value sums)

-- something stays in a router that is none of two
abbrev pub some_stays : List ℤ → ℕ → ℕ → ℕ → Bool
some_stays sums child up router =
    not (router == child) && not (router == up) && not (int_eq (sum_at sums router) (pos 0))

-- as much as this is sent out of a router
abbrev pub sends_amount : List ℤ → ℕ → ℕ → Bool
sends_amount sums router amount = int_eq (sum_at sums router) (pos amount)

-- the sums are what a flow, as far as it has come, sends out of each router
pub record HasSums (net : Net) (flow : List ℤ) (sums : List ℤ) : Type 0 where
  pub count : length sums ≡ net.routers
  pub each : (r : ℕ) → r < net.routers → sum_at sums r ≡ out r net.links flow
