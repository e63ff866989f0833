-- A router gets a label and enters a queue.
use Rattle.std.proofs.Common.{◌≡◌, ◌≢◌, ℕ, ◌+◌, ◌-◌, ◌<◌, ◌≤◌, Bool, List, [], ◌∷◌, length, get_or, set}
use Rattle.std.proofs.Common.{get_or-set_same, get_or-set_other}
use Rattle.std.proofs.Common.{sym, ◌∙◌, ap, arith, refl, inl, inr}
use Rattle.std.proofs.lemmas.Bool.{cases_eq, cases_lt}
use Rattle.std.proofs.lemmas.List.{length-set}
use Rattle.dinic_flow.specs.Balls.{Search, Reached, level_at, LeadsOn, WalksOn, IsLabelled, Grows, AreApart}
use Rattle.dinic_flow.proofs.Walks.{walks-more}
use Rattle.dinic_flow.proofs.Counting.{places-few}

-- A queue that holds a router without a label nowhere has fewer places than there are routers.
pub known-few : {search : Search} {back : Bool} {reached : Reached} → IsLabelled search back reached →
    (w : ℕ) → w < search.view.net.routers → get_or reached.label w 0 ≡ 0 → reached.known < search.view.net.routers
known-few {search = search} {reached = reached} old w small none =
    let alone : List ℕ = w ∷ [] in
    let most : reached.known + 1 ≤ search.view.net.routers =
    places-few search.view.net.routers reached.queue reached.known alone 1 old.differ
    (λ i j below short. absurd (omega (arith, below, short)))
    (λ i j below short same.
    let first : j ≡ 0 = omega (arith, short) in
    let is : get_or reached.queue i 0 ≡ w = same ∙ rw first refl in
    absurd (omega (arith, old.positive i below, ap (λ r. get_or reached.label r 0) is, none)))
    old.routers
    (λ i short. let first : i ≡ 0 = omega (arith, short) in rw first small) in
    omega (arith, most)

-- The router that is to be labelled: it lies over an open arc from a router with a label one smaller.
pub record IsNext (search : Search) (back : Bool) (label : List ℕ) (u w next : ℕ) : Type 0 where
  pub leads : LeadsOn search back u w
  pub tail : 0 < get_or label u 0
  pub level : get_or label u 0 + 1 ≡ next
  pub small : w < search.view.net.routers
  pub room : w < length label
  pub none : get_or label w 0 ≡ 0

-- The routers that are reached with a router more, which gets this label.
abbrev pub reached_more : Reached → ℕ → ℕ → Reached
reached_more reached w next = record {
  label = set reached.label w next;
  queue = set reached.queue reached.known w;
  known = reached.known + 1;
}

-- A label of another router stays.
pub label-kept : (label : List ℕ) (w next r : ℕ) → get_or label w 0 ≡ 0 → 0 < get_or label r 0 →
    get_or (set label w next) r 0 ≡ get_or label r 0
label-kept label w next r none some =
    get_or-set_other label w r next 0 (λ same. absurd (omega (arith, ap (λ x. get_or label x 0) same, none, some)))

-- What the queue holds before the new router stays.
pub place-kept : (queue : List ℕ) (known w k : ℕ) → k < known → get_or (set queue known w) k 0 ≡ get_or queue k 0
place-kept queue known w k below = get_or-set_other queue known k w 0 (λ same. absurd (omega (arith, same, below)))

module _ (search : Search) (back : Bool) (reached : Reached) (old : IsLabelled search back reached) (u w next : ℕ)
    (new : IsNext search back reached.label u w next) (room : reached.known < length reached.queue) where
  -- The new router has the label.
  new-label : get_or (set reached.label w next) w 0 ≡ next
  new-label = get_or-set_same reached.label w next 0 new.room

  -- It stands behind the others.
  new-place : get_or (set reached.queue reached.known w) reached.known 0 ≡ w
  new-place = get_or-set_same reached.queue reached.known w 0 room

  -- What the queue held before stays.
  old-place : (k : ℕ) → k < reached.known → get_or (set reached.queue reached.known w) k 0 ≡ get_or reached.queue k 0
  old-place k below = place-kept reached.queue reached.known w k below

  -- The label of a router that was in the queue stays.
  old-label : (k : ℕ) → k < reached.known → level_at (reached_more reached w next) k ≡ level_at reached k
  old-label k below =
      rw (old-place k below) (label-kept reached.label w next (get_or reached.queue k 0) new.none
      (old.positive k below))

  -- The label of the last router in the queue is the new one.
  last-label : level_at (reached_more reached w next) reached.known ≡ next
  last-label = rw new-place new-label

  -- A router with a label stands in the longer queue.
  grown-held : (r : ℕ) → 0 < get_or (set reached.label w next) r 0 →
      (k : ℕ) × (k < reached.known + 1) × (get_or (set reached.queue reached.known w) k 0 ≡ r)
  grown-held r some = elim (cases_eq r w) [
    | inl same ↦ (reached.known, omega arith, new-place ∙ sym same)
    | inr apart ↦
        let was : get_or (set reached.label w next) r 0 ≡ get_or reached.label r 0 =
        get_or-set_other reached.label w r next 0 apart in
        let (k, below, is) = old.held r (rw was at some) in
        (k, omega (arith, below), old-place k below ∙ is)
  ]

  -- No router stands there twice.
  grown-differ : (i j : ℕ) → i < j → j < reached.known + 1 →
      get_or (set reached.queue reached.known w) i 0 ≢ get_or (set reached.queue reached.known w) j 0
  grown-differ i j below short same = elim (cases_lt j reached.known) [
    | inl early ↦ old.differ i j below early (sym (old-place i (omega arith)) ∙ same ∙ old-place j early)
    | inr late ↦
        let last : j ≡ reached.known = omega arith in
        let before : i < reached.known = omega arith in
        let is : get_or reached.queue i 0 ≡ w = sym (old-place i before) ∙ same ∙ rw last new-place in
        absurd (omega (arith, old.positive i before, ap (λ r. get_or reached.label r 0) is, new.none))
  ]

  -- A walk leads to each of its routers.
  grown-walks : (k : ℕ) → k < reached.known + 1 →
      WalksOn search back (level_at (reached_more reached w next) k - 1)
      (get_or (set reached.queue reached.known w) 0 0) (get_or (set reached.queue reached.known w) k 0)
  grown-walks k short = rw (old-place 0 old.some) (elim (cases_lt k reached.known) [
    | inl early ↦ rw (old-label k early, old-place k early) (old.walks k early)
    | inr late ↦
        let last : k ≡ reached.known = omega arith in
        let (i, below, is) = old.held u new.tail in
        let first : WalksOn search back (get_or reached.label u 0 - 1) (get_or reached.queue 0 0) u =
        rw is at (old.walks i below) in
        let walk : WalksOn search back (get_or reached.label u 0 - 1 + 1) (get_or reached.queue 0 0) w =
        walks-more search back (get_or reached.label u 0 - 1) (get_or reached.queue 0 0) u w first new.leads in
        let arcs : get_or reached.label u 0 - 1 + 1 ≡ next - 1 = omega (arith, new.tail, new.level) in
        rw (last, last-label, new-place) (rw arcs at walk)
  ])

  -- The queue and the labels with the new router are those of a search.
  pub labelled-grown : IsLabelled search back (reached_more reached w next)
  labelled-grown = record {
    some = omega arith;
    centre = old-label 0 old.some ∙ old.centre;
    routers = λ k short. elim (cases_lt k reached.known) [
      | inl early ↦ rw (old-place k early) (old.routers k early)
      | inr late ↦ let last : k ≡ reached.known = omega arith in rw (last, new-place) new.small
    ];
    positive = λ k short. elim (cases_lt k reached.known) [
      | inl early ↦ rw (old-label k early) (old.positive k early)
      | inr late ↦ let last : k ≡ reached.known = omega arith in rw (last, last-label) (omega (arith, new.level))
    ];
    held = grown-held;
    differ = grown-differ;
    walks = grown-walks;
  }

  -- They grow by it.
  pub grows-one : Grows reached (reached_more reached w next) next
  grows-one = record {
    more = omega arith;
    size = length-set reached.label w next;
    same = old-place;
    kept = λ r some. label-kept reached.label w next r new.none some;
    fresh = λ k late short. let last : k ≡ reached.known = omega arith in rw last last-label;
  }

-- What grows twice grows.
pub grows-more : {before between after : Reached} {next : ℕ} → 0 < next → Grows before between next →
    Grows between after next → Grows before after next
grows-more {before = before} {between = between} {after = after} {next = next} some first second = record {
  more = omega (arith, first.more, second.more);
  size = second.size ∙ first.size;
  same = λ k below. second.same k (omega (arith, first.more)) ∙ first.same k below;
  kept = λ r old. second.kept r (rw (first.kept r old) old) ∙ first.kept r old;
  fresh = λ k late short. elim (cases_lt k between.known) [
    | inl early ↦
        let level : level_at between k ≡ next = first.fresh k late early in
        rw (second.same k early) (second.kept (get_or between.queue k 0) (rw level some) ∙ level)
    | inr later ↦ second.fresh k later short
  ];
}

-- No router has both a mark and a label.
pub apart-turned : (label marks : List ℕ) → AreApart label marks → AreApart marks label
apart-turned label marks apart r some = elim (cases_eq (get_or label r 0) 0) [
  | inl none ↦ none
  | inr other ↦ absurd (omega (arith, some, apart r (omega (arith, other))))
]
