-- A ball that grows by one arc.
use Rattle.std.proofs.Common.{◌≡◌, ℕ, zero, suc, ◌+◌, ◌-◌, ◌<◌, ◌≤◌, Bool, List, [], length, get_or}
use Rattle.std.proofs.Common.{◌∙◌, subst, arith, refl, inl, inr}
use Rattle.std.proofs.lemmas.Bool.{cases_lt}
use Rattle.cut_model.specs.Net.{Net}
use Rattle.residual_graph.specs.Arcs.{arcs_from}
use Rattle.dinic_flow.specs.Balls.{Search, Reached, ball_of, round_of, grown_of, level_at}
use Rattle.dinic_flow.specs.Balls.{LeadsOn, IsLabelled, Grows, IsClosedAt, IsBall, work_of}
use Rattle.dinic_flow.specs.declared.search.Ball.{Ball}
use Rattle.dinic_flow.proofs.Counting.{places-few}

-- A queue has at most as many routers as there are.
pub known-most : {search : Search} {back : Bool} {reached : Reached} → IsLabelled search back reached →
    reached.known ≤ search.view.net.routers
known-most {search = search} {reached = reached} old =
    let most : reached.known + 0 ≤ search.view.net.routers =
    places-few search.view.net.routers reached.queue reached.known [] 0 old.differ
    (λ i j below short. absurd (omega (arith, short)))
    (λ i j below short. absurd (omega (arith, short)))
    old.routers (λ i short. absurd (omega (arith, short))) in
    omega (arith, most)

-- What is closed stays so while labels are kept.
pub closed-kept : (search : Search) (back : Bool) (label wider : List ℕ) (u : ℕ) →
    ((r : ℕ) → 0 < get_or label r 0 → get_or wider r 0 ≡ get_or label r 0) → 0 < get_or label u 0 →
    IsClosedAt search back label u → IsClosedAt search back wider u
closed-kept search back label wider u kept some closed v leads =
    let there = closed v leads in
    (rw (kept v there.0) there.0, rw (kept v there.0, kept u some) there.1)

-- The first so many routers of the queue are closed.
abbrev pub AreClosed : Search → Bool → Reached → ℕ → Type 0
AreClosed search back reached done =
    (k : ℕ) → k < done → IsClosedAt search back reached.label (get_or reached.queue k 0)

-- They stay closed while what is reached grows.
pub all_closed-kept : {search : Search} {back : Bool} {before after : Reached} {next : ℕ} (done : ℕ) →
    IsLabelled search back before → Grows before after next → done ≤ before.known →
    AreClosed search back before done → AreClosed search back after done
all_closed-kept {search = search} {back = back} {before = before} {after = after} done old grows within closed k
    short =
    let inside : k < before.known = omega (arith, short, within) in
    rw (grows.same k inside)
    (closed-kept search back before.label after.label (get_or before.queue k 0) grows.kept (old.positive k inside)
    (closed k short))

-- And one place more.
pub all_closed-more : (search : Search) (back : Bool) (reached : Reached) (done : ℕ) →
    AreClosed search back reached done → IsClosedAt search back reached.label (get_or reached.queue done 0) →
    AreClosed search back reached (done + 1)
all_closed-more search back reached done before here k short = elim (cases_lt k done) [
  | inl early ↦ before k early
  | inr late ↦ let last : k ≡ done = omega arith in rw last here
]

module _ (search : Search) (back : Bool) (label queue : List ℕ) (ball : Ball)
    (is_ball : IsBall search back (ball_of label queue ball)) (after : Reached)
    (grows : Grows (ball_of label queue ball).reached after (ball.radius + 2))
    (labelled : IsLabelled search back after) where
  -- The labels of the ball's routers stay.
  level-kept : (k : ℕ) → k < ball.known → level_at after k ≡ get_or label (get_or queue k 0) 0
  level-kept k short = rw (grows.same k short) (grows.kept (get_or queue k 0) (is_ball.labelled.positive k short))

  -- The routers at the front are at the radius.
  pub rim-kept : (k : ℕ) → ball.front ≤ k → k < ball.known → level_at after k ≡ ball.radius + 1
  rim-kept k late short = level-kept k short ∙ is_ball.rim k late short

  -- Those of the ball stay within the radius.
  inside-kept : (k : ℕ) → k < ball.known → level_at after k ≤ ball.radius + 1
  inside-kept k short = rw (level-kept k short) (is_ball.inside k short)

  -- Each router of the longer queue is at most one arc beyond the radius.
  at-most : (k : ℕ) → k < after.known → level_at after k ≤ ball.radius + 2
  at-most k short = elim (cases_lt k ball.known) [
    | inl early ↦ omega (arith, inside-kept k early)
    | inr late ↦ omega (arith, grows.fresh k late short)
  ]

  -- No label is larger than that of the new routers.
  pub label-most : (r : ℕ) → 0 < get_or after.label r 0 → get_or after.label r 0 ≤ ball.radius + 2
  label-most r some =
      let (k, short, is) = labelled.held r some in
      subst (λ (x : ℕ). get_or after.label x 0 ≤ ball.radius + 2) is (at-most k short)

  -- Where a router of the front reaches routers with labels alone, it is closed.
  pub closed-here : (k : ℕ) → ball.front ≤ k → k < ball.known →
      ((v : ℕ) → LeadsOn search back (get_or after.queue k 0) v → 0 < get_or after.label v 0) →
      IsClosedAt search back after.label (get_or after.queue k 0)
  closed-here k late short reached v leads =
      let some = reached v leads in
      (some, omega (arith, label-most v some, rim-kept k late short))

  -- A ball that is stopped while it grows is one with a part of what lies beyond it.
  pub stopped-ball : IsBall search back (round_of ball after)
  stopped-ball = record {
    labelled = labelled;
    ordered = is_ball.ordered;
    within = grows.more;
    deep = is_ball.deep;
    inside = inside-kept;
    rim = rim-kept;
    beyond = grows.fresh;
    closed = all_closed-kept ball.front is_ball.labelled grows is_ball.ordered is_ball.closed;
  }

  -- A ball whose front was followed whole is a larger one.
  pub grown-ball : ball.front < ball.known → AreClosed search back after ball.known →
      IsBall search back (grown_of ball after)
  grown-ball some closed = record {
    labelled = labelled;
    ordered = grows.more;
    within = omega arith;
    deep = omega (arith, is_ball.deep, some);
    inside = λ k short. omega (arith, at-most k short);
    rim = λ k late short. omega (arith, grows.fresh k late short);
    beyond = λ k late short. absurd (omega (arith, late, short));
    closed = closed;
  }

-- The work of the same routers is the same.
pub work-same : (net : Net) (queue longer : List ℕ) (k : ℕ) →
    ((i : ℕ) → i < k → get_or longer i 0 ≡ get_or queue i 0) → work_of net longer k ≡ work_of net queue k
work-same net queue longer zero same = refl
work-same net queue longer (suc k) same =
    let before : work_of net longer k ≡ work_of net queue k =
    work-same net queue longer k (λ i below. same i (omega (arith, below))) in
    rw (same k (omega arith), before) refl

-- Some routers more are no less work.
work-add : (net : Net) (queue : List ℕ) (k more : ℕ) → work_of net queue k ≤ work_of net queue (k + more)
work-add net queue k zero = let same : k + 0 ≡ k = omega arith in rw same (omega arith)
work-add net queue k (suc more) =
    let next : k + suc more ≡ suc (k + more) = omega arith in
    rw next (omega (arith, work-add net queue k more))

-- More routers are no less work.
pub work-mono : (net : Net) (queue : List ℕ) (k count : ℕ) → k ≤ count → work_of net queue k ≤ work_of net queue count
work-mono net queue k count within =
    let gap : k + (count - k) ≡ count = omega (arith, within) in
    subst (λ (n : ℕ). work_of net queue k ≤ work_of net queue n) gap (work-add net queue k (count - k))

-- A router more costs as many steps as arcs leave it.
pub work-more : (net : Net) (queue longer : List ℕ) (done base start before after : ℕ) →
    ((i : ℕ) → i < done + 1 → get_or longer i 0 ≡ get_or queue i 0) →
    before + base ≤ start + work_of net queue done →
    after ≤ before + length (arcs_from net (get_or queue done 0)) →
    after + base ≤ start + work_of net longer (done + 1)
work-more net queue longer done base start before after same paid more =
    let next : done + 1 ≡ suc done = omega arith in
    let all : work_of net longer (suc done) ≡ work_of net queue (suc done) =
    work-same net queue longer (suc done) (λ i short. same i (omega (arith, short))) in
    rw (next, all) (omega (arith, paid, more))
