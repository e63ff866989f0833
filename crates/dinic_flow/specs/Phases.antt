-- The states of a phase, in which flow is sent along levels, and how one leads to another.
use Rattle.std.specs.Prelude.{◌≡◌, ◌≢◌, ◌⊎◌, ℕ, ◌+◌, ◌*◌, ◌<◌, ◌≤◌, ◌<ℤ◌, ◌≤ℤ◌, pos}
use Rattle.std.specs.Prelude.{List, length, slice_index, sum}
use Rattle.cut_model.specs.Net.{Net}
use Rattle.residual_graph.specs.Arcs.{tail_of, head_of, arc_count}
use Rattle.residual_graph.specs.Places.{begin_of, place_at}
use Rattle.residual_graph.specs.View.{ResidualView, IsSound, left_on}
use Rattle.dinic_flow.specs.Levels.{IsLevelled}
use Rattle.dinic_flow.specs.Sending.{SendsMore}

-- The arc goes from its level to the next one.
abbrev pub Rises : Net → List ℕ → ℕ → Type 0
Rises net label arc = slice_index label (head_of net arc) ≡ slice_index label (tail_of net arc) + 1

-- The router's cursor is behind all of its arcs.
abbrev pub IsSpent : Net → List ℕ → ℕ → Type 0
IsSpent net cursor r = slice_index cursor r ≡ begin_of net (r + 1)

-- Each router with a label has its cursor at its first place.
abbrev pub AreBegun : Net → List ℕ → List ℕ → Type 0
AreBegun net label cursor = (r : ℕ) → 0 < slice_index label r → slice_index cursor r ≡ begin_of net r

-- The cursors of the routers of the list are at their first places.
abbrev pub AreBegunOn : Net → List ℕ → List ℕ → Type 0
AreBegunOn net cursor queue =
    (k : ℕ) → k < length queue → slice_index cursor (slice_index queue k) ≡ begin_of net (slice_index queue k)

-- The cursors of the routers of the list are at their first places, and those that were there have stayed.
pub record IsBegunOn (net : Net) (before after queue : List ℕ) : Type 0 where
  pub begun : AreBegunOn net after queue
  pub kept : (r : ℕ) → slice_index before r ≡ begin_of net r → slice_index after r ≡ begin_of net r

-- A moment of a phase: the residual graph, and the place at which each router's cursor stands.
pub record Moment : Type 0 where
  pub view : ResidualView
  pub cursor : List ℕ

-- The moment of this graph and these cursors.
abbrev pub moment_of : ResidualView → List ℕ → Moment
moment_of view cursor = record { view = view; cursor = cursor }

-- What a phase keeps: it sends flow to t, up the levels that the labels say, over arcs on which at least so much,
-- the threshold, is left.
pub record Aim : Type 0 where
  pub threshold : ℕ
  pub t : ℕ
  pub label : List ℕ

-- The aim with this threshold, this t and these labels.
abbrev pub aim_of : ℕ → ℕ → List ℕ → Aim
aim_of threshold t label = record { threshold = threshold; t = t; label = label }

-- An arc that leads on is closed, or leads to a spent router other than t.
abbrev pub IsBlocked : Aim → Moment → ℕ → Type 0
IsBlocked aim now arc =
    Rises now.view.net aim.label arc →
    (left_on now.view arc <ℤ pos aim.threshold)
    ⊎ ((head_of now.view.net arc ≢ aim.t) × IsSpent now.view.net now.cursor (head_of now.view.net arc))

-- All arcs at the places from one up to another are blocked.
abbrev pub AreBlocked : Aim → Moment → ℕ → ℕ → Type 0
AreBlocked aim now from to = (at : ℕ) → from ≤ at → at < to → IsBlocked aim now (place_at now.view.net at).arc

-- The cursor of each router with a label is among the router's places, that of t at the first one, and all before
-- it are blocked. Other routers' cursors may be anywhere.
pub record HasCome (aim : Aim) (now : Moment) : Type 0 where
  pub size : length now.cursor ≡ now.view.net.routers
  pub fresh : slice_index now.cursor aim.t ≡ begin_of now.view.net aim.t
  pub above : (r : ℕ) → 0 < slice_index aim.label r → begin_of now.view.net r ≤ slice_index now.cursor r
  pub below : (r : ℕ) → 0 < slice_index aim.label r → slice_index now.cursor r ≤ begin_of now.view.net (r + 1)
  pub blocked :
      (r : ℕ) → 0 < slice_index aim.label r → AreBlocked aim now (begin_of now.view.net r) (slice_index now.cursor r)

-- A state of a phase: a flow within the capacities, levels that rise to t, and cursors.
pub record IsPhase (aim : Aim) (now : Moment) : Type 0 where
  pub sound : IsSound now.view
  pub levelled : IsLevelled now.view aim.threshold aim.t aim.label
  pub come : HasCome aim now

-- What a router sends on to t, from one state of a phase to a later one: no arc that leads on gains,
-- those that leave lower levels than the router's are as they were, and so are the cursors of all
-- other routers that aren't on higher levels.
pub record Sends (aim : Aim) (before after : Moment) (router amount : ℕ) : Type 0 where
  pub same : after.view ≡ record before.view { flow = after.view.flow }
  pub sends : SendsMore before.view.net.links before.view.flow after.view.flow router aim.t amount
  pub falls :
      (arc : ℕ) → arc < arc_count before.view.net → Rises before.view.net aim.label arc →
      left_on after.view arc ≤ℤ left_on before.view arc
  pub spares :
      (arc : ℕ) → arc < arc_count before.view.net →
      slice_index aim.label (tail_of before.view.net arc) < slice_index aim.label router →
      left_on after.view arc ≡ left_on before.view arc
  pub moves : (r : ℕ) → slice_index before.cursor r ≤ slice_index after.cursor r
  pub keeps :
      (r : ℕ) → slice_index aim.label r ≤ slice_index aim.label router → r ≢ router →
      slice_index after.cursor r ≡ slice_index before.cursor r

-- How far all cursors have come together, and the steps by then.
pub record Tally : Type 0 where
  pub places : ℕ
  pub steps : ℕ

-- The tally of these cursors and so many steps.
abbrev pub tally_of : List ℕ → ℕ → Tally
tally_of cursor steps = record { places = sum cursor; steps = steps }

-- At most two steps at each of so many levels, for each place that was passed and once more.
abbrev pub Costs : ℕ → Tally → Tally → Type 0
Costs levels before after =
    after.steps + 2 * (levels * before.places) ≤ before.steps + 2 * (levels * after.places) + 2 * levels
