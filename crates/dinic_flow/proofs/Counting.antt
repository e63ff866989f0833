-- Routers that differ: how many they can be, and how many arcs leave them together.
use Rattle.std.proofs.Common.{◌≡◌, ◌≢◌, ℕ, zero, suc, ◌+◌, ◌<◌, ◌≤◌, false, cond, List, [], ◌∷◌}
use Rattle.std.proofs.Common.{length, get_or, sym, ◌∙◌, arith, refl, inl, inr, eq-eqb}
use Rattle.std.specs.Prelude.{◌==◌, ◌⊎◌}
use Rattle.std.specs.List.{count_by, range_with_len}
use Rattle.std.proofs.lemmas.Bool.{cases_eq, ne_eqb}
use Rattle.std.proofs.lemmas.List.Sums.{length-filter, sum_by-cons, get_or-le-sum_by}
use Rattle.std.proofs.lemmas.List.FromFn.{length-range_with_len, get_or-range_with_len}
use Rattle.cut_model.specs.Net.{Net}
use Rattle.residual_graph.specs.Arcs.{tail_of, arc_count, arcs_from}
use Rattle.dinic_flow.specs.Balls.{work_of}

-- How many of the first places of a queue hold a router.
abbrev times : ℕ → List ℕ → ℕ → ℕ
times r queue zero = 0
times r queue (suc k) = times r queue k + cond (r == get_or queue k 0) 1 0

-- How many numbers of a list have this key.
abbrev hits : (ℕ → ℕ) → List ℕ → ℕ → ℕ
hits key xs r = count_by (λ x. key x == r) xs

-- How many numbers of a list have the routers of the first places of a queue as their keys, together.
abbrev hits_of : (ℕ → ℕ) → List ℕ → List ℕ → ℕ → ℕ
hits_of key xs queue zero = 0
hits_of key xs queue (suc k) = hits_of key xs queue k + hits key xs (get_or queue k 0)

-- No two of the first places hold one router.
abbrev pub Differ : List ℕ → ℕ → Type 0
Differ queue k = (i j : ℕ) → i < j → j < k → get_or queue i 0 ≢ get_or queue j 0

-- A router that no place holds is held no times.
times-none : (r : ℕ) (queue : List ℕ) (k : ℕ) → ((i : ℕ) → i < k → get_or queue i 0 ≢ r) → times r queue k ≡ 0
times-none r queue zero none = refl
times-none r queue (suc k) none =
    let before : times r queue k ≡ 0 = times-none r queue k (λ i below. none i (omega arith)) in
    let apart : (r == get_or queue k 0) ≡ false =
    ne_eqb r (get_or queue k 0) (λ same. none k (omega arith) (sym same)) in
    rw (apart, before) refl

-- A router is held once at most.
times-once : (r : ℕ) (queue : List ℕ) (k : ℕ) → Differ queue k → times r queue k ≤ 1
times-once r queue zero differ = omega arith
times-once r queue (suc k) differ = elim (cases_eq r (get_or queue k 0)) [
  | inl same ↦
      let before : times r queue k ≡ 0 = times-none r queue k (λ i below. rw same (differ i k below (omega arith))) in
      rw (eq-eqb r (get_or queue k 0) same, before) (omega arith)
  | inr apart ↦
      let before : times r queue k ≤ 1 = times-once r queue k (λ i j below short. differ i j below (omega arith)) in
      rw (ne_eqb r (get_or queue k 0) apart) (omega arith)
]

-- Where some place holds a router or none does.
pub is-held : (r : ℕ) (queue : List ℕ) (k : ℕ) →
    ((i : ℕ) × (i < k) × (get_or queue i 0 ≡ r)) ⊎ ((i : ℕ) → i < k → get_or queue i 0 ≢ r)
is-held r queue zero = inr (λ i below. absurd (omega (arith, below)))
is-held r queue (suc k) = elim (cases_eq (get_or queue k 0) r) [
  | inl same ↦ inl (k, omega arith, same)
  | inr apart ↦ elim (is-held r queue k) [
    | inl (i, below, same) ↦ inl (i, omega arith, same)
    | inr none ↦ inr (λ i below. elim (cases_eq i k) [
      | inl last ↦ rw last apart
      | inr early ↦ none i (omega (arith, early))
    ])
  ]
]

-- Two queues that share no router hold it once at most, together.
times-both : (r : ℕ) (first : List ℕ) (k : ℕ) (second : List ℕ) (l : ℕ) → Differ first k → Differ second l →
    ((i j : ℕ) → i < k → j < l → get_or first i 0 ≢ get_or second j 0) →
    times r first k + times r second l ≤ 1
times-both r first k second l differ differ_too apart = elim (is-held r first k) [
  | inl (i, below, same) ↦
      let none : times r second l ≡ 0 =
      times-none r second l (λ j short. λ e. apart i j below short (same ∙ sym e)) in
      omega (arith, times-once r first k differ, none)
  | inr out ↦ omega (arith, times-none r first k out, times-once r second l differ_too)
]

-- One number more is one hit more where its key is held.
hits_of-cons : (key : ℕ → ℕ) (x : ℕ) (xs queue : List ℕ) (k : ℕ) →
    hits_of key (x ∷ xs) queue k ≡ times (key x) queue k + hits_of key xs queue k
hits_of-cons key x xs queue zero = refl
hits_of-cons key x xs queue (suc k) =
    let r : ℕ = get_or queue k 0 in
    let more : hits key (x ∷ xs) r ≡ cond (key x == r) 1 0 + hits key xs r =
    sum_by-cons (λ y. cond (key y == r) 1 0) x xs in
    omega (arith, more, hits_of-cons key x xs queue k)

-- An empty list has no hits.
hits_of-nil : (key : ℕ → ℕ) (queue : List ℕ) (k : ℕ) → hits_of key [] queue k ≡ 0
hits_of-nil key queue zero = refl
hits_of-nil key queue (suc k) = omega (arith, hits_of-nil key queue k)

-- Queues that hold each router once at most have at most as many hits as there are numbers.
pub hits-few : (key : ℕ → ℕ) (xs first : List ℕ) (k : ℕ) (second : List ℕ) (l : ℕ) → Differ first k →
    Differ second l → ((i j : ℕ) → i < k → j < l → get_or first i 0 ≢ get_or second j 0) →
    hits_of key xs first k + hits_of key xs second l ≤ length xs
hits-few key [] first k second l differ differ_too apart =
    omega (arith, hits_of-nil key first k, hits_of-nil key second l)
hits-few key (x ∷ xs) first k second l differ differ_too apart =
    let rest : hits_of key xs first k + hits_of key xs second l ≤ length xs =
    hits-few key xs first k second l differ differ_too apart in
    let one : times (key x) first k + times (key x) second l ≤ 1 =
    times-both (key x) first k second l differ differ_too apart in
    omega (arith, rest, one, hits_of-cons key x xs first k, hits_of-cons key x xs second l)

-- The arcs that leave the routers of a queue are those whose tails it holds.
work_of-hits : (net : Net) (queue : List ℕ) (k : ℕ) →
    work_of net queue k ≡ hits_of (tail_of net) (range_with_len 0 (arc_count net)) queue k
unfolding arcs_from
work_of-hits net queue zero = refl
work_of-hits net queue (suc k) = omega (
  arith,
  work_of-hits net queue k,
  length-filter (λ arc. tail_of net arc == get_or queue k 0) (range_with_len 0 (arc_count net)),
)

-- The arcs that leave routers of two queues, each router once, are at most all arcs.
pub work-few : (net : Net) (first : List ℕ) (k : ℕ) (second : List ℕ) (l : ℕ) → Differ first k → Differ second l →
    ((i j : ℕ) → i < k → j < l → get_or first i 0 ≢ get_or second j 0) →
    work_of net first k + work_of net second l ≤ arc_count net
work-few net first k second l differ differ_too apart = omega (
  arith,
  hits-few (tail_of net) (range_with_len 0 (arc_count net)) first k second l differ differ_too apart,
  work_of-hits net first k,
  work_of-hits net second l,
  length-range_with_len 0 (arc_count net),
)

-- A number of a list is hit.
hits-some : (xs : List ℕ) (i r : ℕ) → i < length xs → get_or xs i 0 ≡ r → 0 < hits (λ x. x) xs r
hits-some xs i r within same =
    let one : cond {A = ℕ} (get_or xs i 0 == r) 1 0 ≡ 1 = rw (eq-eqb (get_or xs i 0) r same) refl in
    let most : cond {A = ℕ} (get_or xs i 0 == r) 1 0 ≤ hits (λ x. x) xs r =
    get_or-le-sum_by (λ x. cond (x == r) 1 0) xs i 0 within in
    omega (arith, one, most)

-- Each router below n is hit by the numbers below n.
hits_of-all : (n : ℕ) (queue : List ℕ) (k : ℕ) → ((i : ℕ) → i < k → get_or queue i 0 < n) →
    k ≤ hits_of (λ x. x) (range_with_len 0 n) queue k
hits_of-all n queue zero small = omega arith
hits_of-all n queue (suc k) small =
    let r : ℕ = get_or queue k 0 in
    let below : r < n = small k (omega arith) in
    let at : get_or (range_with_len 0 n) r 0 ≡ r = omega (arith, get_or-range_with_len 0 n r 0 below) in
    let hit : 0 < hits (λ x. x) (range_with_len 0 n) r =
    hits-some (range_with_len 0 n) r r (omega (arith, length-range_with_len 0 n, below)) at in
    omega (arith, hit, hits_of-all n queue k (λ i short. small i (omega arith)))

-- Two queues of routers below n, which hold each once at most, have at most n places.
pub places-few : (n : ℕ) (first : List ℕ) (k : ℕ) (second : List ℕ) (l : ℕ) → Differ first k → Differ second l →
    ((i j : ℕ) → i < k → j < l → get_or first i 0 ≢ get_or second j 0) →
    ((i : ℕ) → i < k → get_or first i 0 < n) → ((i : ℕ) → i < l → get_or second i 0 < n) → k + l ≤ n
places-few n first k second l differ differ_too apart small small_too = omega (
  arith,
  hits-few (λ x. x) (range_with_len 0 n) first k second l differ differ_too apart,
  hits_of-all n first k small,
  hits_of-all n second l small_too,
  length-range_with_len 0 n,
)
