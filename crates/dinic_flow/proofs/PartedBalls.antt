-- Where the ball about s can't grow and meets none, its queue is all that s reaches.
use Rattle.std.proofs.Common.{◌≡◌, ℕ, ◌+◌, ◌-◌, ◌<◌, ◌≤◌, false, length, get_or}
use Rattle.std.proofs.Common.{take, sym, arith, refl}
use Rattle.residual_graph.specs.Arcs.{tail_of, head_of}
use Rattle.dinic_flow.specs.Searching.{IsApart}
use Rattle.dinic_flow.specs.Balls.{Search, BallView, label_in, centre_of, LeadsOn, AreBalls}
use Rattle.dinic_flow.proofs.Levelling.{walk-to}
use Rattle.dinic_flow.proofs.QueueFronts.{front-routers, contains-front, front-contains}

-- A ball about s that can't grow, and in which t isn't, is all that s reaches.
pub parted : {search : Search} {near far : BallView} (s t : ℕ) → AreBalls search near far →
    near.reached.known ≤ near.front → near.reached.known ≤ length near.reached.queue →
    centre_of near ≡ s → centre_of far ≡ t →
    IsApart search.view search.threshold s t (take near.reached.known near.reached.queue)
parted {search = search} {near = near} {far = far} s t balls followed room start end =
    let ball = balls.near_ball in
    let queue = near.reached.queue in
    let known : ℕ = near.reached.known in
    let net = search.view.net in
    record {
      within = front-routers ball.labelled known net.routers (omega arith) (omega arith);
      holds = contains-front queue known 0 s ball.labelled.some room start;
      lacks = λ inside.
          let (k, short, is) = front-contains queue known t room inside in
          let some : 0 < label_in near t = rw is at (ball.labelled.positive k short) in
          let one : label_in far t ≡ 1 = rw end at balls.far_ball.labelled.centre in
          omega (arith, one, balls.apart t some);
      closed = λ arc within is_open inside.
          let (k, short, is) = front-contains queue known (tail_of net arc) room inside in
          let leads : LeadsOn search false (get_or queue k 0) (head_of net arc) =
          record { arc = arc; within = within; tail = sym is; head = refl; is_open = is_open } in
          let there = ball.closed k (omega (arith, short, followed)) (head_of net arc) leads in
          let (j, below, same) = ball.labelled.held (head_of net arc) there.0 in
          contains-front queue known j (head_of net arc) below room same;
      walks = λ r inside.
          let (k, short, is) = front-contains queue known r room inside in
          let some : 0 < label_in near r = rw is at (ball.labelled.positive k short) in
          let level : label_in near r ≡ label_in near r - 1 + 1 = omega (arith, some) in
          (label_in near r - 1, rw start at (walk-to ball.labelled r (label_in near r - 1) level));
    }
