-- Open arcs, walks over them, and levels of routers.
use Rattle.std.specs.Prelude.{◌≡◌, ℕ, zero, suc, ◌+◌, ◌<◌, ◌≤◌, ◌≤ℤ◌, pos, ◌==◌}
use Rattle.std.specs.Prelude.{List, length, slice_index, if◌then◌else◌}
use Rattle.residual_graph.specs.Arcs.{tail_of, head_of, arc_count}
use Rattle.residual_graph.specs.View.{ResidualView, left_on}

-- An arc is open where at least so much, the threshold, is left on it.
abbrev pub IsOpen : ResidualView → ℕ → ℕ → Type 0
IsOpen view threshold arc = pos threshold ≤ℤ left_on view arc

-- An open arc from u to v.
pub record OpenArc (view : ResidualView) (threshold u v : ℕ) : Type 0 where
  pub arc : ℕ
  pub within : arc < arc_count view.net
  pub tail : tail_of view.net arc ≡ u
  pub head : head_of view.net arc ≡ v
  pub is_open : IsOpen view threshold arc

-- So many open arcs, one behind another, lead from u to v.
abbrev pub Walk : ResidualView → ℕ → ℕ → ℕ → ℕ → Type 0
Walk view threshold zero u v = u ≡ v
Walk view threshold (suc arcs) u v = (w : ℕ) × OpenArc view threshold u w × Walk view threshold arcs w v

-- Each walk from s to t over open arcs has more arcs than so many.
abbrev pub IsFartherThan : ResidualView → ℕ → ℕ → ℕ → ℕ → Type 0
IsFartherThan view threshold s t distance = (arcs : ℕ) → Walk view threshold arcs s t → distance < arcs

-- A router's height: its label, or a middle height where it has none, as label 0 says.
abbrev pub height : ℕ → List ℕ → ℕ → ℕ
height mid label router = if slice_index label router == 0 then mid else slice_index label router

-- Levels that rise to t: t alone has the largest label, no open arc rises by more than one, and none
-- that leaves a router without a label rises.
pub record IsLevelled (view : ResidualView) (threshold t : ℕ) (label : List ℕ) : Type 0 where
  pub mid : ℕ
  pub size : view.net.routers ≤ length label
  pub few : slice_index label t ≤ view.net.routers
  pub most : (r : ℕ) → slice_index label r ≤ slice_index label t
  pub only : (r : ℕ) → slice_index label r ≡ slice_index label t → r ≡ t
  pub rises :
      (arc : ℕ) → arc < arc_count view.net → IsOpen view threshold arc →
      height mid label (head_of view.net arc) ≤ height mid label (tail_of view.net arc) + 1
  pub stays :
      (arc : ℕ) → arc < arc_count view.net → IsOpen view threshold arc →
      slice_index label (tail_of view.net arc) ≡ 0 → height mid label (head_of view.net arc) ≤ mid
