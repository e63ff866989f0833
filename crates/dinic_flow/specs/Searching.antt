-- What a search from both ends finds.
use Rattle.std.specs.Prelude.{◌≡◌, ℕ, ◌+◌, ◌<◌, ◌≤◌, List, length, take, slice_index, All, Contains}
use Rattle.residual_graph.specs.Arcs.{tail_of, head_of, arc_count}
use Rattle.residual_graph.specs.View.{ResidualView}
use Rattle.dinic_flow.specs.declared.search.Found.{Found}
use Rattle.dinic_flow.specs.declared.search.Found.TheVariants.{Joined, Apart}
use Rattle.dinic_flow.specs.Levels.{IsOpen, Walk, IsLevelled}
use Rattle.dinic_flow.specs.Phases.{AreBegun}

-- A walk of so many open arcs leads from s to t, and the labels rise along each such walk from 1 at s.
pub record IsJoined (view : ResidualView) (threshold s t : ℕ) (label : List ℕ) (distance : ℕ) : Type 0 where
  pub some : 0 < distance
  pub short : distance < view.net.routers
  pub levelled : IsLevelled view threshold t label
  pub start : slice_index label s ≡ 1
  pub end : slice_index label t ≡ distance + 1
  pub walk : Walk view threshold distance s t

-- The list holds just the routers to which open arcs lead from s, and t is not among them.
pub record IsApart (view : ResidualView) (threshold s t : ℕ) (reached : List ℕ) : Type 0 where
  pub within : All (λ r. r < view.net.routers) reached
  pub holds : Contains reached s
  pub lacks : Contains reached t → ⊥
  pub closed :
      (arc : ℕ) → arc < arc_count view.net → IsOpen view threshold arc →
      Contains reached (tail_of view.net arc) → Contains reached (head_of view.net arc)
  pub walks : (r : ℕ) → Contains reached r → (arcs : ℕ) × Walk view threshold arcs s r

-- What was found holds: levels up to t at that distance, with cursors that begin a phase, or the first of the
-- queue as all that s reaches.
abbrev pub IsFound : ResidualView → ℕ → ℕ → ℕ → List ℕ → List ℕ → List ℕ → Found → Type 0
IsFound view threshold s t label cursor ahead (Joined distance) =
    IsJoined view threshold s t label distance × AreBegun view.net label cursor
IsFound view threshold s t label cursor ahead (Apart reached) =
    (reached ≤ length ahead) × IsApart view threshold s t (take reached ahead)
