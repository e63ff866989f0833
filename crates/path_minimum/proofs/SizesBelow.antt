-- How many routers are below each router of a way, and how long two ways are together.
use Rattle.std.proofs.Common.{◌≡◌, ◌≢◌, inl, inr, ℕ, zero, suc, ◌+◌, ◌<◌, ◌≤◌, true, false}
use Rattle.std.proofs.Common.{List, [], ◌∷◌, map, sym, ◌∙◌, ap, subst, arith, refl}
use Rattle.std.specs.Prelude.{◌==◌}
use Rattle.std.specs.List.Sorted.{IsStrictlyIncreasing}
use Rattle.std.proofs.lemmas.Bool.{cases_Bool, cases_eq, eq-eqb, ne_eqb}
use Rattle.cut_model.specs.Net.{Net}
use Rattle.cut_model.specs.Cuts.{RouterSet}
use Rattle.cut_model.specs.Crossing.{◌∩◌, ◌∪◌}
use Rattle.cut_model.specs.Terminals.{IsTerminal, number_in}
use Rattle.cut_model.proofs.Counting.{with_number, with_number-other, number_in-new, number_in-lt}
use Rattle.cut_model.proofs.Counting.{number_in-same}
use Rattle.cut_model.proofs.Terminals.{terminal-lt}
use Rattle.tree_state.proofs.Trees.{Tree, tree_below, tree_below-up}
use Rattle.path_minimum.specs.Paths.{size_below}
use Rattle.path_minimum.specs.Depths.{depth_in}
use Rattle.path_minimum.specs.Walks.{IsMeeting}
use Rattle.path_minimum.proofs.Depths.{above, below_step}
use Rattle.path_minimum.proofs.Ways.{way, way-none, way-suc, below-deeper, below-above, below-self, below-through}

-- ---- counting

-- a part of a set holds no more
pub number_in-part : (X Y : RouterSet) (n : ℕ) → ((i : ℕ) → i < n → X i ≡ true → Y i ≡ true)
    → number_in X n ≤ number_in Y n
unfolding number_in
number_in-part X Y zero part = omega arith
number_in-part X Y (suc n) part =
    let rest : number_in X n ≤ number_in Y n = number_in-part X Y n (λ i low. part i (omega arith)) in
    let here : X n ≡ true → Y n ≡ true = part n (omega arith) in
    elim (cases_Bool (X n)) [
      | inl inside ↦ rw (inside, here inside) (omega arith)
      | inr out ↦ rw out (grind (arith, cases_Bool (Y n), rest))
    ]

-- and less where the set holds a number that the part lacks
pub number_in-smaller : (X Y : RouterSet) (s n : ℕ) → ((i : ℕ) → i < n → X i ≡ true → Y i ≡ true) → s < n
    → X s ≡ false → Y s ≡ true → number_in X n < number_in Y n
number_in-smaller X Y s n part low out inside = omega (
  arith,
  number_in-new X s n out low,
  number_in-part (with_number s X) Y n (λ i within holds. elim (cases_eq i s) [
    | inl here ↦ ap Y here ∙ inside
    | inr other ↦ part i within (sym (with_number-other s X i other) ∙ holds)
  ]),
)

-- what two sets hold together and what they share are as many as the two hold
pub number_in-joined : (X Y : RouterSet) (n : ℕ)
    → number_in (X ∪ Y) n + number_in (X ∩ Y) n ≡ number_in X n + number_in Y n
unfolding number_in
number_in-joined X Y zero = refl
number_in-joined X Y (suc n) =
    grind (arith, cases_Bool (X n), cases_Bool (Y n), number_in-joined X Y n)

-- ---- sizes grow up a way

-- each router that is below a terminal is below the one above that
below-grows : (net : Net) (t : Tree net) → ((i : ℕ) → i < net.routers → IsTerminal net (t.up i)) → (c : ℕ)
    → IsTerminal net c → c ≢ t.root → t.up c ≢ t.root → (i : ℕ) → i < net.routers → tree_below net t c i ≡ true
    → tree_below net t (t.up c) i ≡ true
below-grows net t ups c c_is not_root up_not_root i low inside = elim (cases_eq i c) [
  | inl here ↦ subst (λ (r : ℕ). tree_below net t (t.up c) r ≡ true) (sym here)
      (step c (t.up_is c c_is) (below-self net t (t.up c) (t.up_is c c_is)))
  | inr other ↦ step i (ups i low)
      (below-through net t (t.up c) c (t.up i) (ups i low)
      (step c (t.up_is c c_is) (below-self net t (t.up c) (t.up_is c c_is)))
      (rw (ne_eqb i c other) at (sym (below_step net t c i not_root (ups i low)) ∙ inside)))
]
  where
    step : (r : ℕ) → IsTerminal net (t.up r) → tree_below net t (t.up c) (t.up r) ≡ true
        → tree_below net t (t.up c) r ≡ true
    step r up_is above_it =
        rw (below_step net t (t.up c) r up_not_root up_is, above_it) (grind (arith, cases_Bool (r == t.up c)))

-- so more routers are below the one above
size_below-grows : (net : Net) (t : Tree net) → ((i : ℕ) → i < net.routers → IsTerminal net (t.up i)) → (c : ℕ)
    → IsTerminal net c → c ≢ t.root → t.up c ≢ t.root
    → size_below net.routers t.up c < size_below net.routers t.up (t.up c)
size_below-grows net t ups c c_is not_root up_not_root =
    number_in-smaller (tree_below net t c) (tree_below net t (t.up c)) (t.up c) net.routers
    (below-grows net t ups c c_is not_root up_not_root) (terminal-lt net (t.up c) (t.up_is c c_is))
    (tree_below-up net t c not_root c_is) (below-self net t (t.up c) (t.up_is c c_is))

-- no number rises in an empty list
pub rises-none : IsStrictlyIncreasing []
rises-none k low = absurd (omega arith)

-- nor where there is one alone
pub rises-one : (x : ℕ) → IsStrictlyIncreasing (x ∷ [])
rises-one x k low = absurd (omega arith)

-- a smaller number before one that rises
pub rises-more : (x y : ℕ) (xs : List ℕ) → x < y → IsStrictlyIncreasing (y ∷ xs) → IsStrictlyIncreasing (x ∷ y ∷ xs)
rises-more x y xs smaller rises zero low = smaller
rises-more x y xs smaller rises (suc k) low =
    let e : suc k + 1 ≡ suc (k + 1) = omega arith in rw e (rises k (omega arith))

-- equal lists rise alike
rises-same : (f : ℕ → ℕ) (xs ys : List ℕ) → xs ≡ ys → IsStrictlyIncreasing (map f ys)
    → IsStrictlyIncreasing (map f xs)
rises-same f xs ys e rises = subst (λ (zs : List ℕ). IsStrictlyIncreasing (map f zs)) (sym e) rises

-- the sizes rise along a way
pub way-rises : (net : Net) (t : Tree net) → ((i : ℕ) → i < net.routers → IsTerminal net (t.up i)) → (to k from : ℕ)
    → IsTerminal net from → t.depth from ≤ k → tree_below net t to from ≡ true
    → IsStrictlyIncreasing (map (size_below net.routers t.up) (way net t from to))
way-rises net t ups to zero from from_is low inside = elim (cases_eq from to) [
  | inl here ↦ rises-same (size_below net.routers t.up) (way net t from to) [] (none here) rises-none
  | inr apart ↦ absurd (omega (arith, below-deeper net t to from from_is inside apart))
]
  where
    none : from ≡ to → way net t from to ≡ []
    none here = rw here (way-none net t to)
way-rises net t ups to (suc k) from from_is low inside = elim (cases_eq from to) [
  | inl here ↦ rises-same (size_below net.routers t.up) (way net t from to) [] (none here) rises-none
  | inr apart ↦ elim (cases_eq (t.up from) to) [
    | inl last ↦ rises-same (size_below net.routers t.up) (way net t from to) (from ∷ [])
        (way-suc net t from to from_is inside apart ∙ ap (λ (ws : List ℕ). from ∷ ws) (rw last (way-none net t to)))
        (rises-one (size_below net.routers t.up from))
    | inr further ↦ (
        let not_root : from ≢ t.root = deep_not_root from from_is inside apart in
        let above_inside : tree_below net t to (t.up from) ≡ true = below-above net t to from from_is inside apart in
        let whole : way net t (t.up from) to ≡ t.up from ∷ way net t (t.up (t.up from)) to =
        way-suc net t (t.up from) to (t.up_is from from_is) above_inside further in
        rises-same (size_below net.routers t.up) (way net t from to)
        (from ∷ t.up from ∷ way net t (t.up (t.up from)) to)
        (way-suc net t from to from_is inside apart ∙ ap (λ (ws : List ℕ). from ∷ ws) whole)
        (rises-more (size_below net.routers t.up from) (size_below net.routers t.up (t.up from))
        (map (size_below net.routers t.up) (way net t (t.up (t.up from)) to))
        (size_below-grows net t ups from from_is not_root
        (deep_not_root (t.up from) (t.up_is from from_is) above_inside further))
        (rises-same (size_below net.routers t.up) (t.up from ∷ way net t (t.up (t.up from)) to)
        (way net t (t.up from) to) (sym whole)
        (way-rises net t ups to k (t.up from) (t.up_is from from_is) (omega (arith, t.step from from_is not_root))
        above_inside))))
  ]
]
  where
    none : from ≡ to → way net t from to ≡ []
    none here = rw here (way-none net t to)

    deep_not_root : (i : ℕ) → IsTerminal net i → tree_below net t to i ≡ true → i ≢ to → i ≢ t.root
    deep_not_root i i_is below_it other e =
        let top : t.depth i ≡ 0 = ap t.depth e ∙ t.depth_root in
        omega (arith, below-deeper net t to i i_is below_it other)

-- ---- how long two ways are together

-- where two ways up meet, the routers above are those above both beginnings
meeting-shares : (net : Net) (t : Tree net) (a b m : ℕ) → IsMeeting net t.up a b m → (c : ℕ)
    → above net.routers t.root t.up m c
    ≡ (above net.routers t.root t.up a ∩ above net.routers t.root t.up b) c
meeting-shares net t a b m meeting c = rw (meeting.shared c) (grind (
  arith,
  cases_Bool (tree_below net t c a),
  cases_Bool (tree_below net t c b),
  cases_Bool (c == t.root),
))

-- so there are fewer routers on both ways up than in the network and on what they share
pub meeting-short : (net : Net) (t : Tree net) (a b m : ℕ) → IsMeeting net t.up a b m
    → depth_in net.routers t.root t.up a + depth_in net.routers t.root t.up b
    < net.routers + depth_in net.routers t.root t.up m
unfolding depth_in
meeting-short net t a b m meeting = omega (
  arith,
  number_in-joined (above net.routers t.root t.up a) (above net.routers t.root t.up b) net.routers,
  number_in-same (above net.routers t.root t.up m)
      (above net.routers t.root t.up a ∩ above net.routers t.root t.up b) net.routers
      (λ c low. meeting-shares net t a b m meeting c),
  number_in-lt (above net.routers t.root t.up a ∪ above net.routers t.root t.up b) t.root net.routers
      (rw (eq-eqb t.root t.root refl)
      (grind (arith, cases_Bool (tree_below net t t.root a), cases_Bool (tree_below net t t.root b))))
      (terminal-lt net t.root t.root_is),
)
