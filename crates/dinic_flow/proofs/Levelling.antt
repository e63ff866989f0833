-- Two balls that an open arc joins make levels.
use Rattle.std.proofs.Common.{◌≡◌, ℕ, ◌+◌, ◌-◌, ◌<◌, ◌≤◌, Bool, false, List, length, get_or}
use Rattle.std.proofs.Common.{sym, ◌∙◌, ap, subst, arith, refl, inl, inr, eq-eqb}
use Rattle.std.specs.Prelude.{◌⊎◌}
use Rattle.std.proofs.lemmas.Bool.{cases_lt, ne_eqb}
use Rattle.residual_graph.specs.Arcs.{tail_of, head_of}
use Rattle.dinic_flow.specs.Levels.{height, IsLevelled}
use Rattle.dinic_flow.specs.Searching.{IsJoined}
use Rattle.dinic_flow.specs.Balls.{Search, Reached, BallView, level_at, label_in, centre_of}
use Rattle.dinic_flow.specs.Balls.{LeadsOn, WalksOn, IsLabelled, IsClosedAt, IsBall, AreBalls}
use Rattle.dinic_flow.proofs.Walks.{walk-append, walk-arc, walks-none}
use Rattle.dinic_flow.proofs.Counting.{places-few}

-- A router nearer than the radius is closed: all its arcs were followed.
pub inner-closed : {search : Search} {back : Bool} {ball : BallView} → IsBall search back ball →
    (u : ℕ) → 0 < label_in ball u → label_in ball u ≤ ball.radius → IsClosedAt search back ball.reached.label u
inner-closed {search = search} {back = back} {ball = ball} is_ball u some near =
    let (k, short, is) = is_ball.labelled.held u some in
    let level : level_at ball.reached k ≤ ball.radius = rw is near in
    elim (cases_lt k ball.front) [
      | inl early ↦ rw is at (is_ball.closed k early)
      | inr late ↦ elim (cases_lt k ball.stop) [
        | inl on_rim ↦ absurd (omega (arith, level, is_ball.rim k late on_rim))
        | inr outside ↦ absurd (omega (arith, level, is_ball.beyond k outside short))
      ]
    ]

-- A ball with nothing beyond its radius.
abbrev pub IsWhole : BallView → Type 0
IsWhole ball = ball.reached.known ≤ ball.stop

-- A router of a whole ball is at most at the radius.
pub whole-most : {search : Search} {back : Bool} {ball : BallView} → IsBall search back ball → IsWhole ball →
    (r : ℕ) → 0 < label_in ball r → label_in ball r ≤ ball.radius + 1
whole-most {ball = ball} is_ball whole r some =
    let (k, short, is) = is_ball.labelled.held r some in
    subst (λ (x : ℕ). label_in ball x ≤ ball.radius + 1) is (is_ball.inside k (omega (arith, short, whole)))

-- A router of a whole ball from which an open arc leads out of the ball is at the radius.
pub at-rim : {search : Search} {back : Bool} {ball : BallView} → IsBall search back ball → IsWhole ball →
    (u v : ℕ) → 0 < label_in ball u → LeadsOn search back u v → label_in ball v ≡ 0 →
    (label_in ball u ≡ ball.radius + 1) × (ball.front < ball.reached.known)
at-rim {search = search} {back = back} {ball = ball} is_ball whole u v some leads none =
    let (k, short, is) = is_ball.labelled.held u some in
    elim (cases_lt k ball.front) [
      | inl early ↦
          let closed : IsClosedAt search back ball.reached.label u = rw is at (is_ball.closed k early) in
          absurd (omega (arith, none, (closed v leads).0))
      | inr late ↦
          let level : label_in ball u ≡ ball.radius + 1 =
          rw is at (is_ball.rim k late (omega (arith, short, whole))) in
          (level, omega (arith, late, short))
    ]

-- Only the centre has the label 1.
pub centre-only : {search : Search} {back : Bool} {reached : Reached} → IsLabelled search back reached →
    (r : ℕ) → get_or reached.label r 0 ≡ 1 → r ≡ get_or reached.queue 0 0
centre-only {search = search} {back = back} {reached = reached} labelled r is_one =
    let (k, short, is) = labelled.held r (omega (arith, is_one)) in
    let walk : WalksOn search back (level_at reached k - 1) (get_or reached.queue 0 0) (get_or reached.queue k 0) =
    labelled.walks k short in
    let none : level_at reached k - 1 ≡ 0 = rw is (omega (arith, is_one)) in
    sym is ∙ sym (walks-none search back (get_or reached.queue 0 0) (get_or reached.queue k 0) (rw none at walk))

-- A walk leads to each router with a label.
pub walk-to : {search : Search} {back : Bool} {reached : Reached} → IsLabelled search back reached →
    (r arcs : ℕ) → get_or reached.label r 0 ≡ arcs + 1 → WalksOn search back arcs (get_or reached.queue 0 0) r
walk-to {search = search} {back = back} {reached = reached} labelled r arcs level =
    let (k, short, is) = labelled.held r (omega (arith, level)) in
    let walk : WalksOn search back (get_or reached.label r 0 - 1) (get_or reached.queue 0 0) r =
    rw is at (labelled.walks k short) in
    let count : get_or reached.label r 0 - 1 ≡ arcs = omega (arith, level) in
    rw count at walk

-- One numbering of two balls: labels stay within the radius of the one, those of the other count down to its centre,
-- and what lies beyond both has no label.
pub record IsOneNumbering (near far : BallView) (final : List ℕ) : Type 0 where
  pub up : (r : ℕ) → 0 < label_in near r → label_in near r ≤ near.radius + 1 → get_or final r 0 ≡ label_in near r
  pub down : (r : ℕ) → 0 < label_in far r → label_in far r ≤ far.radius + 1 →
      get_or final r 0 ≡ near.radius + far.radius + 3 - label_in far r
  pub none :
      (r : ℕ) → (0 < label_in near r → near.radius + 1 < label_in near r) →
      (0 < label_in far r → far.radius + 1 < label_in far r) → get_or final r 0 ≡ 0

-- A router of the ball about s.
pub record IsNear (near : BallView) (final : List ℕ) (r : ℕ) : Type 0 where
  pub some : 0 < label_in near r
  pub most : label_in near r ≤ near.radius + 1
  pub is : get_or final r 0 ≡ label_in near r

-- A router of the ball about t.
pub record IsFar (near far : BallView) (final : List ℕ) (r : ℕ) : Type 0 where
  pub some : 0 < label_in far r
  pub most : label_in far r ≤ far.radius + 1
  pub is : get_or final r 0 + label_in far r ≡ near.radius + far.radius + 3

-- A router of neither.
pub record IsBare (near far : BallView) (final : List ℕ) (r : ℕ) : Type 0 where
  pub beyond : 0 < label_in near r → near.radius + 1 < label_in near r
  pub outside : 0 < label_in far r → far.radius + 1 < label_in far r
  pub is : get_or final r 0 ≡ 0

-- The height of a router with a label is its label.
height-some : (mid : ℕ) (label : List ℕ) (r : ℕ) → 0 < get_or label r 0 → height mid label r ≡ get_or label r 0
height-some mid label r some = rw (ne_eqb (get_or label r 0) 0 (λ e. omega (arith, some, e))) refl

-- The height of a router without one is the middle.
height-none : (mid : ℕ) (label : List ℕ) (r : ℕ) → get_or label r 0 ≡ 0 → height mid label r ≡ mid
height-none mid label r none = rw (eq-eqb (get_or label r 0) 0 none) refl

module _ (search : Search) (near far : BallView) (final : List ℕ) (balls : AreBalls search near far)
    (one : IsOneNumbering near far final) where
  -- Each router is of one of the three kinds.
  pub kind-of : (r : ℕ) → IsNear near final r ⊎ (IsFar near far final r ⊎ IsBare near far final r)
  kind-of r = elim (cases_lt 0 (label_in near r)) [
    | inl some ↦ elim (cases_lt (near.radius + 1) (label_in near r)) [
      | inl beyond ↦
          let none : label_in far r ≡ 0 = balls.apart r some in
          let bare : IsBare near far final r = record {
            beyond = λ _. beyond;
            outside = λ marked. absurd (omega (arith, marked, none));
            is = one.none r (λ _. beyond) (λ marked. absurd (omega (arith, marked, none)));
          } in
          inr (inr bare)
      | inr within ↦
          let near_r : IsNear near final r = record { some = some; most = within; is = one.up r some within } in
          inl near_r
    ]
    | inr bare ↦ elim (cases_lt 0 (label_in far r)) [
      | inl some ↦ elim (cases_lt (far.radius + 1) (label_in far r)) [
        | inl outside ↦
            let bare_r : IsBare near far final r = record {
              beyond = λ labelled. absurd (omega (arith, labelled, bare));
              outside = λ _. outside;
              is = one.none r (λ labelled. absurd (omega (arith, labelled, bare))) (λ _. outside);
            } in
            inr (inr bare_r)
        | inr within ↦
            let far_r : IsFar near far final r = record {
              some = some;
              most = within;
              is = omega (arith, one.down r some within, within);
            } in
            inr (inl far_r)
      ]
      | inr unmarked ↦
          let bare_r : IsBare near far final r = record {
            beyond = λ labelled. absurd (omega (arith, labelled, bare));
            outside = λ marked. absurd (omega (arith, marked, unmarked));
            is = one.none r (λ labelled. absurd (omega (arith, labelled, bare)))
                (λ marked. absurd (omega (arith, marked, unmarked)));
          } in
          inr (inr bare_r)
    ]
  ]

  -- Followed from a router nearer to s than the radius, an open arc leads to a router of the ball.
  near-closed : (u v : ℕ) → LeadsOn search false u v → 0 < label_in near u → label_in near u ≤ near.radius →
      (0 < label_in near v) × (label_in near v ≤ label_in near u + 1)
  near-closed u v arc some within =
      inner-closed balls.near_ball u some within v arc

  -- Followed back from a router nearer to t than the radius, too.
  far-closed : (u v : ℕ) → LeadsOn search false u v → 0 < label_in far v → label_in far v ≤ far.radius →
      (0 < label_in far u) × (label_in far u ≤ label_in far v + 1)
  far-closed u v arc some within =
      inner-closed balls.far_ball v some within u arc

  -- An open arc into the ball about t, which doesn't begin in it, leads to its rim.
  into-far : (u v : ℕ) → LeadsOn search false u v → IsFar near far final v →
      (0 < label_in far u → far.radius + 1 < label_in far u) → get_or final v 0 ≡ near.radius + 2
  into-far u v arc v_far outside = elim (cases_lt (label_in far v) (far.radius + 1)) [
    | inl inner ↦
        let closed = far-closed u v arc v_far.some (omega (arith, inner)) in
        absurd (omega (arith, outside closed.0, closed.1, inner))
    | inr rim ↦ omega (arith, rim, v_far.most, v_far.is)
  ]

  -- An open arc from a router of the ball about s rises by one at most.
  rise-near : (u v : ℕ) → LeadsOn search false u v → IsNear near final u →
      height (near.radius + 2) final v ≤ get_or final u 0 + 1
  rise-near u v arc u_near =
      let no_mark : label_in far u ≡ 0 = balls.apart u u_near.some in
      elim (kind-of v) [
        | inl v_near ↦
            rw (height-some (near.radius + 2) final v (omega (arith, v_near.is, v_near.some)))
            (elim (cases_lt (label_in near u) (near.radius + 1)) [
              | inl inner ↦
                  let closed = near-closed u v arc u_near.some (omega (arith, inner)) in
                  omega (arith, closed.1, v_near.is, u_near.is)
              | inr rim ↦ omega (arith, rim, v_near.is, v_near.most, u_near.is)
            ])
        | inr rest ↦ elim (cases_lt (label_in near u) (near.radius + 1)) [
          | inl inner ↦
              let closed = near-closed u v arc u_near.some (omega (arith, inner)) in
              let v_none : label_in far v ≡ 0 = balls.apart v closed.0 in
              elim rest [
                | inl v_far ↦ absurd (omega (arith, v_far.some, v_none))
                | inr v_bare ↦ absurd (omega (arith, v_bare.beyond closed.0, closed.1, inner))
              ]
          | inr rim ↦ elim rest [
            | inl v_far ↦
                let level : get_or final v 0 ≡ near.radius + 2 =
                into-far u v arc v_far (λ marked. absurd (omega (arith, marked, no_mark))) in
                rw (height-some (near.radius + 2) final v (omega (arith, level)))
                (omega (arith, level, rim, u_near.is))
            | inr v_bare ↦ rw (height-none (near.radius + 2) final v v_bare.is) (omega (arith, rim, u_near.is))
          ]
        ]
      ]

  -- So does one from a router of the ball about t.
  rise-far : (u v : ℕ) → LeadsOn search false u v → IsFar near far final u →
      height (near.radius + 2) final v ≤ get_or final u 0 + 1
  rise-far u v arc u_far = elim (kind-of v) [
    | inl v_near ↦
        rw (height-some (near.radius + 2) final v (omega (arith, v_near.is, v_near.some)))
        (omega (arith, v_near.is, v_near.most, u_far.is, u_far.most))
    | inr rest ↦ elim rest [
      | inl v_far ↦
          rw (height-some (near.radius + 2) final v (omega (arith, v_far.is, v_far.most)))
          (elim (cases_lt (label_in far v) (far.radius + 1)) [
            | inl inner ↦
                let closed = far-closed u v arc v_far.some (omega (arith, inner)) in
                omega (arith, closed.1, v_far.is, u_far.is)
            | inr rim ↦ omega (arith, rim, v_far.is, v_far.most, u_far.is, u_far.most)
          ])
      | inr v_bare ↦ rw (height-none (near.radius + 2) final v v_bare.is) (omega (arith, u_far.is, u_far.most))
    ]
  ]

  -- No open arc that leaves a router beyond both balls rises above the middle.
  stay-bare : (u v : ℕ) → LeadsOn search false u v → IsBare near far final u →
      height (near.radius + 2) final v ≤ near.radius + 2
  stay-bare u v arc u_bare = elim (kind-of v) [
    | inl v_near ↦
        rw (height-some (near.radius + 2) final v (omega (arith, v_near.is, v_near.some)))
        (omega (arith, v_near.is, v_near.most))
    | inr rest ↦ elim rest [
      | inl v_far ↦
          let level : get_or final v 0 ≡ near.radius + 2 = into-far u v arc v_far u_bare.outside in
          rw (height-some (near.radius + 2) final v (omega (arith, level))) (omega (arith, level))
      | inr v_bare ↦ rw (height-none (near.radius + 2) final v v_bare.is) (omega arith)
    ]
  ]

  -- An open arc rises by one at most.
  rise : (u v : ℕ) → LeadsOn search false u v → height (near.radius + 2) final v ≤ height (near.radius + 2) final u + 1
  rise u v arc = elim (kind-of u) [
    | inl u_near ↦
        rw (height-some (near.radius + 2) final u (omega (arith, u_near.is, u_near.some))) (rise-near u v arc u_near)
    | inr rest ↦ elim rest [
      | inl u_far ↦
          rw (height-some (near.radius + 2) final u (omega (arith, u_far.is, u_far.most))) (rise-far u v arc u_far)
      | inr u_bare ↦
          rw (height-none (near.radius + 2) final u u_bare.is) (omega (arith, stay-bare u v arc u_bare))
    ]
  ]

  -- None that leaves a router without a label rises.
  stay : (u v : ℕ) → LeadsOn search false u v → get_or final u 0 ≡ 0 →
      height (near.radius + 2) final v ≤ near.radius + 2
  stay u v arc none = elim (kind-of u) [
    | inl u_near ↦ absurd (omega (arith, none, u_near.is, u_near.some))
    | inr rest ↦ elim rest [
      | inl u_far ↦ absurd (omega (arith, none, u_far.is, u_far.most))
      | inr u_bare ↦ stay-bare u v arc u_bare
    ]
  ]

  -- No label is larger than that of the centre of the ball about t.
  label-final : (r : ℕ) → get_or final r 0 ≤ near.radius + far.radius + 2
  label-final r = elim (kind-of r) [
    | inl r_near ↦ omega (arith, r_near.is, r_near.most)
    | inr rest ↦ elim rest [
      | inl r_far ↦ omega (arith, r_far.is, r_far.some)
      | inr r_bare ↦ omega (arith, r_bare.is)
    ]
  ]

  -- The centre of the ball about t alone has the largest label.
  end-only : (r : ℕ) → get_or final r 0 ≡ near.radius + far.radius + 2 → r ≡ centre_of far
  end-only r largest = elim (kind-of r) [
    | inl r_near ↦ absurd (omega (arith, r_near.is, r_near.most, largest))
    | inr rest ↦ elim rest [
      | inl r_far ↦
          centre-only balls.far_ball.labelled r (omega (arith, r_far.is, largest))
      | inr r_bare ↦ absurd (omega (arith, r_bare.is, largest))
    ]
  ]

  -- That centre has the largest label.
  far-centre : get_or final (centre_of far) 0 ≡ near.radius + far.radius + 2
  far-centre =
      let at : get_or final (centre_of far) 0 ≡ near.radius + far.radius + 3 - label_in far (centre_of far) =
      one.down (centre_of far) (omega (arith, balls.far_ball.labelled.centre))
      (omega (arith, balls.far_ball.labelled.centre)) in
      omega (arith, at, balls.far_ball.labelled.centre)

  -- The centre of the ball about s has the label 1.
  near-centre : get_or final (centre_of near) 0 ≡ 1
  near-centre =
      one.up (centre_of near) (omega (arith, balls.near_ball.labelled.centre))
      (omega (arith, balls.near_ball.labelled.centre))
      ∙ balls.near_ball.labelled.centre

  -- Both balls have a router at each distance, and none in common.
  short-walk : near.front < near.reached.known → far.front < far.reached.known →
      near.radius + far.radius + 1 < search.view.net.routers
  short-walk some_s some_t =
      let most : near.reached.known + far.reached.known ≤ search.view.net.routers =
      places-few search.view.net.routers near.reached.queue near.reached.known far.reached.queue
      far.reached.known balls.near_ball.labelled.differ balls.far_ball.labelled.differ
      (λ i j short short_too same.
      let mark : label_in far (get_or near.reached.queue i 0) ≡ 0 =
      balls.apart (get_or near.reached.queue i 0) (balls.near_ball.labelled.positive i short) in
      let is : label_in far (get_or near.reached.queue i 0) ≡ label_in far (get_or far.reached.queue j 0) =
      ap (λ (x : ℕ). label_in far x) same in
      absurd (omega (arith, mark, is, balls.far_ball.labelled.positive j short_too)))
      balls.near_ball.labelled.routers balls.far_ball.labelled.routers in
      omega (arith, most, balls.near_ball.deep, balls.far_ball.deep, some_s, some_t)

  -- The numbering makes levels.
  levels : search.view.net.routers ≤ length final → near.front < near.reached.known → far.front < far.reached.known →
      IsLevelled search.view search.threshold (centre_of far) final
  levels size some_s some_t = record {
    mid = near.radius + 2;
    size = size;
    few = omega (arith, far-centre, short-walk some_s some_t);
    most = λ r. omega (arith, label-final r, far-centre);
    only = λ r same. end-only r (same ∙ far-centre);
    rises = λ arc within is_open. rise (tail_of search.view.net arc) (head_of search.view.net arc)
        (record { arc = arc; within = within; tail = refl; head = refl; is_open = is_open });
    stays = λ arc within is_open none. stay (tail_of search.view.net arc) (head_of search.view.net arc)
        (record { arc = arc; within = within; tail = refl; head = refl; is_open = is_open }) none;
  }

  -- Where an open arc leads from the rim of the one ball to that of the other, they are joined.
  pub joined : (u v : ℕ) → LeadsOn search false u v → label_in near u ≡ near.radius + 1 →
      label_in far v ≡ far.radius + 1 →
      search.view.net.routers ≤ length final → near.front < near.reached.known → far.front < far.reached.known →
      IsJoined search.view search.threshold (centre_of near) (centre_of far) final (near.radius + far.radius + 1)
  joined u v arc level mark size some_s some_t =
      let to : WalksOn search false near.radius (centre_of near) u =
      walk-to balls.near_ball.labelled u near.radius level in
      let from : WalksOn search false far.radius v (centre_of far) =
      walk-to balls.far_ball.labelled v far.radius mark in
      let over : WalksOn search false (near.radius + 1) (centre_of near) v =
      walk-append search.view search.threshold near.radius 1 (centre_of near) u v to
      (walk-arc search.view search.threshold u v arc) in
      let whole : WalksOn search false (near.radius + 1 + far.radius) (centre_of near) (centre_of far) =
      walk-append search.view search.threshold (near.radius + 1) far.radius (centre_of near) v (centre_of far)
      over from in
      let count : near.radius + 1 + far.radius ≡ near.radius + far.radius + 1 = omega arith in
      record {
        some = omega arith;
        short = short-walk some_s some_t;
        levelled = levels size some_s some_t;
        start = near-centre;
        end = omega (arith, far-centre);
        walk = rw count at whole;
      }
