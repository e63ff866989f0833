-- Where a search joins two balls, the cursors of all routers with levels are at their first places.
use Rattle.std.proofs.Common.{◌≡◌, ℕ, ◌+◌, ◌<◌, ◌≤◌, Bool, List, length, get_or}
use Rattle.std.proofs.Common.{◌∙◌, arith, inl, inr}
use Rattle.std.specs.Prelude.{◌⊎◌}
use Rattle.std.proofs.lemmas.Bool.{cases_lt}
use Rattle.cut_model.specs.Net.{Net}
use Rattle.dinic_flow.specs.Phases.{AreBegun, AreBegunOn}
use Rattle.dinic_flow.specs.Balls.{Search, BallView, label_in, IsBall, AreBalls}
use Rattle.dinic_flow.proofs.Levelling.{IsOneNumbering, kind-of}
use Rattle.dinic_flow.proofs.JoinedBalls.{inner_of}
use Rattle.dinic_flow.proofs.QueueFronts.{front-of}

-- A router stands in one of the places of the ball's queue that are within its radius.
abbrev IsInner : BallView → ℕ → Type 0
IsInner ball r = (k : ℕ) × (k < ball.stop) × (get_or ball.reached.queue k 0 ≡ r)

-- A router whose label says that it is within the radius stands there.
inner-at : {search : Search} {back : Bool} {ball : BallView} → IsBall search back ball →
    (r : ℕ) → 0 < label_in ball r → label_in ball r ≤ ball.radius + 1 → IsInner ball r
inner-at {ball = ball} is_ball r some most =
    let (k, short, is) = is_ball.labelled.held r some in
    elim (cases_lt k ball.stop) [
      | inl inside ↦ (k, inside, is)
      | inr late ↦
          let level : label_in ball r ≡ ball.radius + 2 = rw is at (is_ball.beyond k late short) in
          absurd (omega (arith, level, most))
    ]

-- A router with a level stands there in one of the two balls.
inner-one : {search : Search} {near far : BallView} (final : List ℕ) →
    AreBalls search near far → IsOneNumbering near far final → (r : ℕ) → 0 < get_or final r 0 →
    IsInner near r ⊎ IsInner far r
inner-one {search = search} {near = near} {far = far} final balls one r some =
    elim (kind-of search near far final balls one r) [
      | inl of_near ↦ inl (inner-at balls.near_ball r of_near.some of_near.most)
      | inr rest ↦ elim rest [
        | inl of_far ↦ inr (inner-at balls.far_ball r of_far.some of_far.most)
        | inr bare ↦ absurd (omega (arith, some, bare.is))
      ]
    ]

-- Where the cursors of both balls' routers are at their first places, a phase may begin.
pub begun-both : {search : Search} {near far : BallView} {final : List ℕ} (net : Net) (cursor : List ℕ) →
    AreBalls search near far → IsOneNumbering near far final →
    near.stop ≤ length near.reached.queue → far.stop ≤ length far.reached.queue →
    AreBegunOn net cursor (inner_of near) → AreBegunOn net cursor (inner_of far) → AreBegun net final cursor
begun-both {near = near} {far = far} {final = final} net cursor balls one near_room far_room first second r some =
    elim (inner-one final balls one r some) [
      | inl (k, inside, is) ↦
          let (within, at) = front-of near.reached.queue near.stop k inside near_room in
          rw (at ∙ is) at (first k within)
      | inr (k, inside, is) ↦
          let (within, at) = front-of far.reached.queue far.stop k inside far_room in
          rw (at ∙ is) at (second k within)
    ]
