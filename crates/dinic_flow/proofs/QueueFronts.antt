-- The front of a queue, and a part of it: which places of the queue they are, and that they hold routers.
use Rattle.std.proofs.Common.{◌≡◌, ℕ, ◌+◌, ◌-◌, ◌<◌, ◌≤◌, Bool, List, length, get_or}
use Rattle.std.proofs.Common.{take, drop, length-take, length-drop, get_or-take, get_or-drop, sym, ◌∙◌, ap, arith}
use Rattle.std.specs.List.{All, Contains}
use Rattle.std.proofs.lemmas.List.Elements.{All-from_get_or}
use Rattle.std.proofs.lemmas.Grind.{get_or_default_zero}
use Rattle.dinic_flow.specs.Balls.{Search, Reached, IsLabelled}

-- A place of the front of a queue is one of the queue.
pub front-at : (queue : List ℕ) (n k : ℕ) → k < length (take n queue) →
    (k < n) × (get_or (take n queue) k 0 ≡ get_or queue k 0)
front-at queue n k short =
    let below : k < n = omega (arith, short, length-take n queue) in (below, get_or-take n queue k 0 below)

-- And the other way.
pub front-of : (queue : List ℕ) (n k : ℕ) → k < n → n ≤ length queue →
    (k < length (take n queue)) × (get_or (take n queue) k 0 ≡ get_or queue k 0)
front-of queue n k below within =
    (omega (arith, below, within, length-take n queue), get_or-take n queue k 0 below)

-- A place of a part of a queue is one of the queue.
pub part-at : (queue : List ℕ) (i j k : ℕ) → k < length (take (j - i) (drop i queue)) →
    (i + k < j) × (get_or (take (j - i) (drop i queue)) k 0 ≡ get_or queue (i + k) 0)
part-at queue i j k short =
    let below : k < j - i = omega (arith, short, length-take (j - i) (drop i queue)) in
    (omega (arith, below), get_or-take (j - i) (drop i queue) k 0 below ∙ get_or-drop i queue k 0)

-- And the other way.
pub part-of : (queue : List ℕ) (i j k : ℕ) → i ≤ k → k < j → j ≤ length queue →
    (k - i < length (take (j - i) (drop i queue))) ×
    (get_or (take (j - i) (drop i queue)) (k - i) 0 ≡ get_or queue k 0)
part-of queue i j k late below within =
    let here : k - i < j - i = omega (arith, late, below) in
    let there : i + (k - i) ≡ k = omega (arith, late) in (
      omega (arith, here, within, length-take (j - i) (drop i queue), length-drop i queue),
      get_or-take (j - i) (drop i queue) (k - i) 0 here
          ∙ get_or-drop i queue (k - i) 0
          ∙ ap (λ x. get_or queue x 0) there,
    )

-- What is in the front of the queue of what was reached is a router.
pub front-routers : {search : Search} {back : Bool} {reached : Reached} → IsLabelled search back reached →
    (n size : ℕ) → n ≤ reached.known → search.view.net.routers ≤ size → All (λ r. r < size) (take n reached.queue)
front-routers {reached = reached} labelled n size within large =
    All-from_get_or (λ r. r < size) (take n reached.queue) 0 (λ k short.
    let (below, is) = front-at reached.queue n k short in
    rw is (omega (arith, labelled.routers k (omega (arith, below, within)), large)))

-- So is what is in a part of it.
pub part-routers : {search : Search} {back : Bool} {reached : Reached} → IsLabelled search back reached →
    (i j size : ℕ) → j ≤ reached.known → search.view.net.routers ≤ size →
    All (λ r. r < size) (take (j - i) (drop i reached.queue))
part-routers {reached = reached} labelled i j size within large =
    All-from_get_or (λ r. r < size) (take (j - i) (drop i reached.queue)) 0 (λ k short.
    let (below, is) = part-at reached.queue i j k short in
    rw is (omega (arith, labelled.routers (i + k) (omega (arith, below, within)), large)))

-- A router at a place below n is in the front of a queue.
pub contains-front : (queue : List ℕ) (n k r : ℕ) → k < n → n ≤ length queue → get_or queue k 0 ≡ r →
    Contains (take n queue) r
contains-front queue n k r below within is = (
  k,
  (front-of queue n k below within).0,
  get_or-take n queue k r below ∙ get_or_default_zero queue k r (omega (arith, below, within)) ∙ is,
)

-- And the other way.
pub front-contains : (queue : List ℕ) (n r : ℕ) → n ≤ length queue → Contains (take n queue) r →
    (k : ℕ) × (k < n) × (get_or queue k 0 ≡ r)
front-contains queue n r within (k, short, is) =
    let (below, at) = front-at queue n k short in (
      k,
      below,
      sym (get_or_default_zero queue k r (omega (arith, below, within)))
          ∙ sym (get_or-take n queue k r below)
          ∙ is,
    )
