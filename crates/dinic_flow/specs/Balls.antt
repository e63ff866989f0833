-- Balls: the routers within so many open arcs of one router, in the order in which they were reached.
use Rattle.std.specs.Prelude.{◌≡◌, ◌≢◌, ℕ, zero, suc, ◌+◌, ◌-◌, ◌<◌, ◌≤◌, Bool, true, false}
use Rattle.std.specs.Prelude.{List, length, slice_index}
use Rattle.cut_model.specs.Net.{Net}
use Rattle.residual_graph.specs.Arcs.{arcs_from}
use Rattle.residual_graph.specs.View.{ResidualView}
use Rattle.dinic_flow.specs.declared.search.Ball.{Ball}
use Rattle.dinic_flow.specs.Levels.{OpenArc, Walk}

-- What a search goes over: the arcs of a residual graph on which at least so much is left.
pub record Search : Type 0 where
  pub view : ResidualView
  pub threshold : ℕ

-- The arcs of that graph with that threshold.
abbrev pub search_of : ResidualView → ℕ → Search
search_of view threshold = record { view = view; threshold = threshold }

-- The routers that were reached: they stand in the first places of the queue, and each has a label.
pub record Reached : Type 0 where
  pub label : List ℕ
  pub queue : List ℕ
  pub known : ℕ

-- Those of these labels and the first so many of this queue.
abbrev pub reached_of : List ℕ → List ℕ → ℕ → Reached
reached_of label queue known = record { label = label; queue = queue; known = known }

-- A ball about the queue's first router, as far as it has come. The routers from place `front` up to place
-- `stop` are at the radius, and those behind them are one arc beyond it.
pub record BallView : Type 0 where
  pub reached : Reached
  pub front : ℕ
  pub stop : ℕ
  pub radius : ℕ

-- The ball of these labels and this queue, which has nothing beyond its radius.
abbrev pub ball_of : List ℕ → List ℕ → Ball → BallView
ball_of label queue ball = record {
  reached = reached_of label queue ball.known;
  front = ball.front;
  stop = ball.known;
  radius = ball.radius;
}

-- The ball with what a round has reached beyond its radius.
abbrev pub round_of : Ball → Reached → BallView
round_of ball reached = record {
  reached = reached;
  front = ball.front;
  stop = ball.known;
  radius = ball.radius;
}

-- The ball of the next radius, after a whole round.
abbrev pub grown_of : Ball → Reached → BallView
grown_of ball reached = record {
  reached = reached;
  front = ball.known;
  stop = reached.known;
  radius = ball.radius + 1;
}

-- The label that a router has in a ball: 0 where it has none.
abbrev pub label_in : BallView → ℕ → ℕ
label_in ball r = slice_index ball.reached.label r

-- The router about which a ball is.
abbrev pub centre_of : BallView → ℕ
centre_of ball = slice_index ball.reached.queue 0

-- An open arc leads from u to v, or from v to u where arcs are followed back.
abbrev pub LeadsOn : Search → Bool → ℕ → ℕ → Type 0
LeadsOn search false u v = OpenArc search.view search.threshold u v
LeadsOn search true u v = OpenArc search.view search.threshold v u

-- So many open arcs lead from u to v, or from v to u where arcs are followed back.
abbrev pub WalksOn : Search → Bool → ℕ → ℕ → ℕ → Type 0
WalksOn search false arcs u v = Walk search.view search.threshold arcs u v
WalksOn search true arcs u v = Walk search.view search.threshold arcs v u

-- The label of the router at a place of the queue.
abbrev pub level_at : Reached → ℕ → ℕ
level_at reached k = slice_index reached.label (slice_index reached.queue k)

-- Just the first routers of the queue have labels, none of them stands there twice, and the label of each
-- is one more than the number of arcs of some walk from the queue's first router, or to it.
pub record IsLabelled (search : Search) (back : Bool) (reached : Reached) : Type 0 where
  pub some : 0 < reached.known
  pub centre : level_at reached 0 ≡ 1
  pub routers : (k : ℕ) → k < reached.known → slice_index reached.queue k < search.view.net.routers
  pub positive : (k : ℕ) → k < reached.known → 0 < level_at reached k
  pub held :
      (r : ℕ) → 0 < slice_index reached.label r →
      (k : ℕ) × (k < reached.known) × (slice_index reached.queue k ≡ r)
  pub differ :
      (i j : ℕ) → i < j → j < reached.known → slice_index reached.queue i ≢ slice_index reached.queue j
  pub walks :
      (k : ℕ) → k < reached.known →
      WalksOn search back (level_at reached k - 1) (slice_index reached.queue 0) (slice_index reached.queue k)

-- The routers that had labels are as they were, and those that are new have this one.
pub record Grows (before after : Reached) (next : ℕ) : Type 0 where
  pub more : before.known ≤ after.known
  pub size : length after.label ≡ length before.label
  pub same : (k : ℕ) → k < before.known → slice_index after.queue k ≡ slice_index before.queue k
  pub kept :
      (r : ℕ) → 0 < slice_index before.label r → slice_index after.label r ≡ slice_index before.label r
  pub fresh : (k : ℕ) → before.known ≤ k → k < after.known → level_at after k ≡ next

-- No router has both a label and a mark.
abbrev pub AreApart : List ℕ → List ℕ → Type 0
AreApart label marks = (r : ℕ) → 0 < slice_index label r → slice_index marks r ≡ 0

-- An open arc leads on from router u to a router that has a mark.
pub record Crosses (search : Search) (back : Bool) (marks : List ℕ) (u : ℕ) : Type 0 where
  pub to : ℕ
  pub leads : LeadsOn search back u to
  pub marked : 0 < slice_index marks to

-- One leads on from a router at just the ball's radius.
pub record Meets (search : Search) (back : Bool) (ball : BallView) (marks : List ℕ) : Type 0 where
  pub from : ℕ
  pub level : slice_index ball.reached.label from ≡ ball.radius + 1
  pub crosses : Crosses search back marks from

-- Each router to which an open arc leads on from router u has a label, at most one larger.
abbrev pub IsClosedAt : Search → Bool → List ℕ → ℕ → Type 0
IsClosedAt search back label u =
    (v : ℕ) → LeadsOn search back u v →
    (0 < slice_index label v) × (slice_index label v ≤ slice_index label u + 1)

-- The ball is as its places say: from `front` up to `stop` its routers are at the radius, those behind are
-- beyond it, and the arcs of those before `front` were all followed.
pub record IsBall (search : Search) (back : Bool) (ball : BallView) : Type 0 where
  pub labelled : IsLabelled search back ball.reached
  pub ordered : ball.front ≤ ball.stop
  pub within : ball.stop ≤ ball.reached.known
  pub deep : ball.radius ≤ ball.front
  pub inside : (k : ℕ) → k < ball.stop → level_at ball.reached k ≤ ball.radius + 1
  pub rim : (k : ℕ) → ball.front ≤ k → k < ball.stop → level_at ball.reached k ≡ ball.radius + 1
  pub beyond : (k : ℕ) → ball.stop ≤ k → k < ball.reached.known → level_at ball.reached k ≡ ball.radius + 2
  pub closed :
      (k : ℕ) → k < ball.front → IsClosedAt search back ball.reached.label (slice_index ball.reached.queue k)

-- Two balls with no router in common: from the centre of the one arcs are followed on, and from that of the
-- other they are followed back.
pub record AreBalls (search : Search) (near far : BallView) : Type 0 where
  pub near_ball : IsBall search false near
  pub far_ball : IsBall search true far
  pub apart : AreApart near.reached.label far.reached.label

-- The number of arcs that leave the first routers of a queue.
abbrev pub work_of : Net → List ℕ → ℕ → ℕ
work_of net queue zero = 0
work_of net queue (suc k) = work_of net queue k + length (arcs_from net (slice_index queue k))

-- The routers of the list have lost their labels, and the others have kept them.
pub record IsLetOut (before after queue : List ℕ) : Type 0 where
  pub size : length after ≡ length before
  pub cleared : (k : ℕ) → k < length queue → slice_index after (slice_index queue k) ≡ 0
  pub kept :
      (r : ℕ) → ((k : ℕ) → k < length queue → slice_index queue k ≢ r) → slice_index after r ≡ slice_index before r

-- The routers of the list have the labels that their marks leave of the total, and the others kept theirs.
pub record IsNumbered (before after marks queue : List ℕ) (total : ℕ) : Type 0 where
  pub size : length after ≡ length before
  pub numbered :
      (k : ℕ) → k < length queue →
      slice_index after (slice_index queue k) ≡ total - slice_index marks (slice_index queue k)
  pub kept :
      (r : ℕ) → ((k : ℕ) → k < length queue → slice_index queue k ≢ r) → slice_index after r ≡ slice_index before r
