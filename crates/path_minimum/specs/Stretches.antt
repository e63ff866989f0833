-- Walks through a tree in which what is below a router is a stretch.
use Rattle.std.specs.Prelude.{◌≡◌, ◌≢◌, ℕ, suc, ◌<◌, ◌≤◌, Bool, true, ◌&&◌, nat_le, nat_lt, List, length}
use Rattle.std.specs.Prelude.{slice_index, slice_index_or}
use Rattle.cut_model.specs.Cuts.{RouterSet, set_of}
use Rattle.cut_model.specs.Terminals.{number_in, root_of}
use Rattle.tree_state.specs.Tables.{below}
use Rattle.tree_state.specs.Views.{TreeView, up_of}
use Rattle.path_minimum.specs.declared.walk.Draft.{Draft}
use Rattle.path_minimum.specs.declared.walk.Stretch.{Stretch}

-- The routers below c in a tree.
abbrev pub below_in : TreeView → ℕ → RouterSet
below_in tree c = below tree.net.routers (up_of tree) c

-- The routers in an order, and a stretch of it for each router.
pub record WalkView : Type 0 where
  pub order : List ℕ
  pub stretches : List Stretch

-- The stretch of a router.
abbrev pub stretch_at : List Stretch → ℕ → Stretch
stretch_at stretches c = slice_index_or stretches c (record { from = 0; end = 0 })

-- Whether a place is in a stretch.
abbrev pub is_in : Stretch → ℕ → Bool
is_in stretch place = nat_le stretch.from place && nat_lt place stretch.end

-- A walk through a tree: the stretch of each router begins with it, and has just the routers below it.
pub record IsWalkOf (tree : TreeView) (walk : WalkView) : Type 0 where
  pub size : length walk.order ≡ tree.net.routers
  pub places : length walk.stretches ≡ tree.net.routers
  pub within : (k : ℕ) → k < tree.net.routers → slice_index walk.order k < tree.net.routers
  pub place_is :
      (k : ℕ) → k < tree.net.routers → (stretch_at walk.stretches (slice_index walk.order k)).from ≡ k
  pub from_is :
      (c : ℕ) → c < tree.net.routers → slice_index walk.order (stretch_at walk.stretches c).from ≡ c
  pub from_within : (c : ℕ) → c < tree.net.routers → (stretch_at walk.stretches c).from < tree.net.routers
  pub ordered :
      (c : ℕ) → c < tree.net.routers
      → (stretch_at walk.stretches c).from < (stretch_at walk.stretches c).end
  pub end_within : (c : ℕ) → c < tree.net.routers → (stretch_at walk.stretches c).end ≤ tree.net.routers
  pub below_is :
      (c k : ℕ) → c < tree.net.routers → k < tree.net.routers
      → below_in tree c (slice_index walk.order k) ≡ is_in (stretch_at walk.stretches c) k

-- ---- how a walk is found

-- A place of an order, no earlier than another one, at which a router stands.
pub record HasPlace (order : List ℕ) (from c : ℕ) : Type 0 where
  pub place : ℕ
  pub later : from ≤ place
  pub inside : place < length order
  pub router_is : slice_index order place ≡ c

-- No router stands twice in an order.
abbrev pub AreApartIn : List ℕ → Type 0
AreApartIn order = (i j : ℕ) → i < j → j < length order → slice_index order i ≢ slice_index order j

-- Routers in an order in which each but the first hangs from one that has the router before it below it.
pub record IsOrdered (tree : TreeView) (order : List ℕ) : Type 0 where
  pub some : 0 < length order
  pub first : slice_index order 0 ≡ root_of tree.net
  pub within : (k : ℕ) → k < length order → slice_index order k < tree.net.routers
  pub apart : AreApartIn order
  pub leads :
      (k : ℕ) → suc k < length order
      → below_in tree (up_of tree (slice_index order (suc k))) (slice_index order k) ≡ true

-- Some routers of a tree in such an order, which of them have a place, and for each of these one no later than its own.
pub record IsDrafted (tree : TreeView) (order : List ℕ) (placed : List Bool) (hints : List ℕ) : Type 0 where
  pub ordered : IsOrdered tree order
  pub size : length placed ≡ tree.net.routers
  pub hint_size : length hints ≡ tree.net.routers
  pub counted : length order ≡ number_in (set_of placed) tree.net.routers
  pub are_placed : (k : ℕ) → k < length order → set_of placed (slice_index order k) ≡ true
  pub hint : (c : ℕ) → set_of placed c ≡ true → HasPlace order (slice_index hints c) c

-- The same of a draft.
abbrev pub IsDraftOf : TreeView → Draft → Type 0
IsDraftOf tree draft = IsDrafted tree draft.order.items draft.placed draft.hints.items

-- All routers of a tree in such an order.
pub record IsPreorder (tree : TreeView) (order : List ℕ) : Type 0 where
  pub ordered : IsOrdered tree order
  pub size : length order ≡ tree.net.routers
  pub has_place : (c : ℕ) → c < tree.net.routers → HasPlace order 0 c

-- From its place on the routers of a stretch lie deeper than the first, and the next one, if there is one, doesn't.
pub record IsRun (depths order : List ℕ) (place : ℕ) (stretch : Stretch) : Type 0 where
  pub from_is : stretch.from ≡ place
  pub later : place < stretch.end
  pub inside : stretch.end ≤ length order
  pub deeper :
      (k : ℕ) → place < k → k < stretch.end
      → slice_index depths (slice_index order place) < slice_index depths (slice_index order k)
  pub stops :
      stretch.end < length order
      → slice_index depths (slice_index order stretch.end) ≤ slice_index depths (slice_index order place)

-- The stretches of the routers from a place on are such.
abbrev pub AreRunsFrom : List ℕ → List ℕ → List Stretch → ℕ → Type 0
AreRunsFrom depths order stretches place =
    (k : ℕ) → place ≤ k → k < length order
    → IsRun depths order k (stretch_at stretches (slice_index order k))

-- The routers of an order are below n.
abbrev pub AreWithin : ℕ → List ℕ → Type 0
AreWithin n order = (k : ℕ) → k < length order → slice_index order k < n

-- A router stands at none of these places of an order.
abbrev pub IsNotBetween : List ℕ → ℕ → ℕ → ℕ → Type 0
IsNotBetween order from end r = (k : ℕ) → from ≤ k → k < end → slice_index order k ≢ r
