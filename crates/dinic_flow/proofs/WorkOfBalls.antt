-- What is followed of two balls, together.
use Rattle.std.proofs.Common.{◌≡◌, ℕ, ◌+◌, ◌≤◌, get_or, ap, arith}
use Rattle.residual_graph.specs.Arcs.{arc_count}
use Rattle.dinic_flow.specs.Balls.{Search, BallView, label_in, AreBalls, work_of}
use Rattle.dinic_flow.proofs.Counting.{work-few}

-- What was followed of both balls is at most all arcs.
pub work-both : {search : Search} {near far : BallView} (k l : ℕ) → AreBalls search near far →
    k ≤ near.reached.known → l ≤ far.reached.known →
    work_of search.view.net near.reached.queue k + work_of search.view.net far.reached.queue l
    ≤ arc_count search.view.net
work-both {search = search} {near = near} {far = far} k l balls within within_too =
    let near_labelled = balls.near_ball.labelled in
    let far_labelled = balls.far_ball.labelled in
    work-few search.view.net near.reached.queue k far.reached.queue l
    (λ i j below short. near_labelled.differ i j below (omega (arith, short, within)))
    (λ i j below short. far_labelled.differ i j below (omega (arith, short, within_too)))
    (λ i j short short_too same.
    let mark : label_in far (get_or near.reached.queue i 0) ≡ 0 =
    balls.apart (get_or near.reached.queue i 0) (near_labelled.positive i (omega (arith, short, within))) in
    let is : label_in far (get_or near.reached.queue i 0) ≡ label_in far (get_or far.reached.queue j 0) =
    ap (λ (x : ℕ). label_in far x) same in
    absurd (omega (arith, mark, is, far_labelled.positive j (omega (arith, short_too, within_too)))))
