-- A round that an open arc stops joins the balls: what it leaves of both is one numbering of levels.
use Rattle.std.proofs.Common.{◌≡◌, ◌≢◌, ℕ, ◌+◌, ◌-◌, ◌<◌, ◌≤◌, false, true, List, length, get_or}
use Rattle.std.proofs.Common.{take, drop, sym, ◌∙◌, arith, inl, inr}
use Rattle.std.proofs.lemmas.Bool.{cases_lt}
use Rattle.dinic_flow.specs.Searching.{IsJoined}
use Rattle.dinic_flow.specs.Balls.{Search, BallView, level_at, label_in, centre_of}
use Rattle.dinic_flow.specs.Balls.{AreBalls, Meets, IsLetOut, IsNumbered}
use Rattle.dinic_flow.proofs.Entering.{apart-turned}
use Rattle.dinic_flow.proofs.Levelling.{IsWhole, IsOneNumbering, whole-most, at-rim, joined}
use Rattle.dinic_flow.proofs.QueueFronts.{front-at, front-of, part-at, part-of}

-- The routers of the queue that are beyond the radius.
abbrev pub beyond_of : BallView → List ℕ
beyond_of ball = take (ball.reached.known - ball.stop) (drop ball.stop ball.reached.queue)

-- Those at places up to `stop`, within the radius.
abbrev pub inner_of : BallView → List ℕ
inner_of ball = take ball.stop ball.reached.queue

-- The sum of the two labels that a router of both balls would have, where an arc joins their rims.
abbrev pub total_of : BallView → BallView → ℕ
total_of near far = near.radius + far.radius + 1 + 2

-- After a round of the ball about s: what it found beyond the rim has lost its label, and the routers of the ball
-- about t have theirs.
pub numbered-near : {search : Search} {near far : BallView} (bare final : List ℕ) →
    AreBalls search near far → IsWhole far →
    near.reached.known ≤ length near.reached.queue → far.stop ≤ length far.reached.queue →
    IsLetOut near.reached.label bare (beyond_of near) →
    IsNumbered bare final far.reached.label (inner_of far) (total_of near far) →
    IsOneNumbering near far final
numbered-near {near = near} {far = far} bare final balls whole near_room far_room out numbered =
    let near_ball = balls.near_ball in
    let far_ball = balls.far_ball in
    let beyond : (r k : ℕ) → k < length (beyond_of near) → get_or (beyond_of near) k 0 ≡ r →
    label_in near r ≡ near.radius + 2 = λ r k short is.
    let (below, at) = part-at near.reached.queue near.stop near.reached.known k short in
    let level : level_at near.reached (near.stop + k) ≡ near.radius + 2 =
    near_ball.beyond (near.stop + k) (omega arith) below in
    rw (sym at ∙ is) at level in
    let marked : (r k : ℕ) → k < length (inner_of far) → get_or (inner_of far) k 0 ≡ r → 0 < label_in far r =
    λ r k short is.
    let (below, at) = front-at far.reached.queue far.stop k short in
    rw (sym at ∙ is) at (far_ball.labelled.positive k (omega (arith, below, far_ball.within))) in
    let bare-kept : (r : ℕ) → label_in near r ≢ near.radius + 2 → get_or bare r 0 ≡ label_in near r = λ r other.
    out.kept r (λ k short is. other (beyond r k short is)) in
    let final-kept : (r : ℕ) → label_in far r ≡ 0 → get_or final r 0 ≡ get_or bare r 0 = λ r none.
    numbered.kept r (λ k short is. absurd (omega (arith, none, marked r k short is))) in
    record {
      up = λ r some most. final-kept r (balls.apart r some) ∙ bare-kept r (λ is. absurd (omega (arith, most, is)));
      down = λ r some most.
          let (k, short, is) = far_ball.labelled.held r some in
          let (within, at) = front-of far.reached.queue far.stop k (omega (arith, short, whole)) far_room in
          let number : get_or final r 0 ≡ total_of near far - label_in far r =
          rw (at ∙ is) at (numbered.numbered k within) in
          omega (arith, number);
      none = λ r far_off out_of.
          elim (cases_lt 0 (label_in far r)) [
            | inl some ↦ absurd (omega (arith, out_of some, whole-most far_ball whole r some))
            | inr bare_r ↦ final-kept r (omega (arith, bare_r)) ∙ elim (cases_lt 0 (label_in near r)) [
              | inl some ↦
                  let (k, short, is) = near_ball.labelled.held r some in
                  elim (cases_lt k near.stop) [
                    | inl inside ↦
                        let level : label_in near r ≤ near.radius + 1 = rw is at (near_ball.inside k inside) in
                        absurd (omega (arith, level, far_off some))
                    | inr late ↦
                        let (within, at) = part-of near.reached.queue near.stop near.reached.known k late short
                        near_room in
                        rw (at ∙ is) at (out.cleared (k - near.stop) within)
                  ]
              | inr unlabelled ↦
                  bare-kept r (λ is. absurd (omega (arith, unlabelled, is))) ∙ omega (arith, unlabelled)
            ]
          ];
    }

-- After a round of the ball about t: the routers within its radius have their labels, and what it found beyond has
-- none.
pub numbered-far : {search : Search} {near far : BallView} (final : List ℕ) →
    AreBalls search near far → IsWhole near → far.stop ≤ length far.reached.queue →
    IsNumbered near.reached.label final far.reached.label (inner_of far) (total_of near far) →
    IsOneNumbering near far final
numbered-far {near = near} {far = far} final balls whole far_room numbered =
    let near_ball = balls.near_ball in
    let far_ball = balls.far_ball in
    let marked : (r k : ℕ) → k < length (inner_of far) → get_or (inner_of far) k 0 ≡ r →
    (0 < label_in far r) × (label_in far r ≤ far.radius + 1) = λ r k short is.
    let (below, at) = front-at far.reached.queue far.stop k short in
    let same : get_or far.reached.queue k 0 ≡ r = sym at ∙ is in (
      rw same at (far_ball.labelled.positive k (omega (arith, below, far_ball.within))),
      rw same at (far_ball.inside k below),
    ) in
    record {
      up = λ r some most. numbered.kept r (λ k short is.
          absurd (omega (arith, balls.apart r some, (marked r k short is).0)));
      down = λ r some most.
          let (k, short, is) = far_ball.labelled.held r some in
          elim (cases_lt k far.stop) [
            | inl inside ↦
                let (within, at) = front-of far.reached.queue far.stop k inside far_room in
                let number : get_or final r 0 ≡ total_of near far - label_in far r =
                rw (at ∙ is) at (numbered.numbered k within) in
                omega (arith, number)
            | inr late ↦
                let level : label_in far r ≡ far.radius + 2 = rw is at (far_ball.beyond k late short) in
                absurd (omega (arith, level, most))
          ];
      none = λ r far_off out_of. elim (cases_lt 0 (label_in near r)) [
        | inl some ↦ absurd (omega (arith, far_off some, whole-most near_ball whole r some))
        | inr bare ↦
            numbered.kept r (λ k short is.
            let here = marked r k short is in
            absurd (omega (arith, here.0, here.1, out_of here.0)))
            ∙ omega (arith, bare)
      ];
    }

-- A round of the ball about s that an open arc stops joins the balls.
pub joined-near : {search : Search} {near far : BallView} (bare final : List ℕ) →
    AreBalls search near far → IsWhole far → near.front < near.stop →
    near.reached.known ≤ length near.reached.queue → far.stop ≤ length far.reached.queue →
    Meets search false near far.reached.label → IsLetOut near.reached.label bare (beyond_of near) →
    IsNumbered bare final far.reached.label (inner_of far) (total_of near far) →
    search.view.net.routers ≤ length final →
    IsJoined search.view search.threshold (centre_of near) (centre_of far) final (near.radius + far.radius + 1)
joined-near {search = search} {near = near} {far = far} bare final balls whole some near_room far_room meets out
    numbered size =
    let u : ℕ = meets.from in
    let v : ℕ = meets.crosses.to in
    let none : label_in far u ≡ 0 = balls.apart u (omega (arith, meets.level)) in
    let rim = at-rim balls.far_ball whole v u meets.crosses.marked meets.crosses.leads none in
    let one : IsOneNumbering near far final =
    numbered-near bare final balls whole near_room far_room out numbered in
    joined search near far final balls one u v meets.crosses.leads meets.level rim.0 size
    (omega (arith, some, balls.near_ball.within)) rim.1

-- So does a round of the ball about t.
pub joined-far : {search : Search} {near far : BallView} (final : List ℕ) →
    AreBalls search near far → IsWhole near → far.front < far.stop → far.stop ≤ length far.reached.queue →
    Meets search true far near.reached.label →
    IsNumbered near.reached.label final far.reached.label (inner_of far) (total_of near far) →
    search.view.net.routers ≤ length final →
    IsJoined search.view search.threshold (centre_of near) (centre_of far) final (near.radius + far.radius + 1)
joined-far {search = search} {near = near} {far = far} final balls whole some far_room meets numbered size =
    let v : ℕ = meets.from in
    let u : ℕ = meets.crosses.to in
    let none : label_in near v ≡ 0 =
    apart-turned near.reached.label far.reached.label balls.apart v (omega (arith, meets.level)) in
    let rim = at-rim balls.near_ball whole u v meets.crosses.marked meets.crosses.leads none in
    let one : IsOneNumbering near far final = numbered-far final balls whole far_room numbered in
    joined search near far final balls one u v meets.crosses.leads rim.0 meets.level size rim.1
    (omega (arith, some, balls.far_ball.within))
