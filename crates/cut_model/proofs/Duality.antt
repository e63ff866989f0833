-- A flow is at most the cost of each set that parts its ends, and equal to it where it fills the set.
use Rattle.std.proofs.Common.{◌≡◌, ◌≢◌, inl, inr, ℕ, zero, suc, ◌+◌, ◌<◌, ◌≤◌, Bool, true}
use Rattle.std.proofs.Common.{false, cond, ◌&&◌, List, [], ◌∷◌, sym, ◌∙◌, ap, arith, refl, ltb}
use Rattle.std.specs.Prelude.{◌==◌, ℤ, pos, negsuc, ◌+ℤ◌, ◌-ℤ◌, ◌≤ℤ◌, nat_abs, sum_by}
use Rattle.std.specs.List.{AllByRecursion}
use Rattle.std.proofs.lemmas.Bool.{cases_Bool, cases_eq, cases_lt, lt-ltb, le-ltb, false≢true, eq-eqb, ne_eqb}
use Rattle.std.proofs.lemmas.Int.{ints}
use Rattle.std.proofs.lemmas.List.Elements.{recursion_from_All}
use Rattle.std.proofs.lemmas.List.Sums.{sum_by-cons}
use Rattle.cut_model.specs.declared.network.Link.{Link}
use Rattle.cut_model.specs.Net.{Net, IsInLimits}
use Rattle.cut_model.specs.Cuts.{RouterSet, across, cut_value, differ, IsLeastCut}
use Rattle.cut_model.specs.Flow.{carried, IsFull, out, IsWithinCaps, IsFlow}

-- Both ends of a link are among the first n routers.
abbrev pub HasEndsBelow : ℕ → Link → Type 0
HasEndsBelow n link = (link.a < n) × (link.b < n)

-- the ends of all links of a network are among its routers
pub ends_within : (net : Net) → IsInLimits net → AllByRecursion (HasEndsBelow net.routers) net.links
ends_within net limits =
    recursion_from_All (HasEndsBelow net.routers) net.links (λ k at_end small.
    ((limits.within k at_end small).a, (limits.within k at_end small).b))

-- ---- one end of one link

-- x where router a is in Y and below n, else 0
part : RouterSet → ℤ → ℕ → ℕ → ℤ
part Y x a zero = pos 0
part Y x a (suc n) = cond (Y n && (a == n)) x (pos 0) +ℤ part Y x a n

-- one router more
part-suc : (Y : RouterSet) (x : ℤ) (a n : ℕ) → part Y x a (suc n) ≡ (cond (Y n && (a == n)) x (pos 0) +ℤ part Y x a n)
unfolding part
part-suc Y x a n = refl

-- a router that isn't below n has no part
part-past : (Y : RouterSet) (x : ℤ) (a n : ℕ) → n ≤ a → part Y x a n ≡ pos 0
unfolding part
part-past Y x a zero h = refl
part-past Y x a (suc n) h =
    let ne : (a == n) ≡ false = ne_eqb a n (λ e. omega arith) in
    rw (ne, part-past Y x a n (omega arith)) (grind (arith, ints, cases_Bool (Y n)))

-- below n, it has x exactly where it is in Y
part_is : (Y : RouterSet) (x : ℤ) (a n : ℕ) → a < n → part Y x a n ≡ cond (Y a) x (pos 0)
part_is Y x a zero h = absurd (omega arith)
part_is Y x a (suc n) h = elim (cases_eq a n) [
  | inl e ↦ part-suc Y x a n ∙ rw (e, eq-eqb n n refl, part-past Y x n n (omega arith))
      (grind (arith, ints, cases_Bool (Y n)))
  | inr ne ↦
      part-suc Y x a n
      ∙ rw (ne_eqb a n ne, part_is Y x a n (omega arith)) (grind (arith, ints, cases_Bool (Y n), cases_Bool (Y a)))
]

-- ---- all that a set sends out

-- what the routers of Y below n send out together
total : RouterSet → List Link → List ℤ → ℕ → ℤ
total Y links flow zero = pos 0
total Y links flow (suc n) = cond (Y n) (out n links flow) (pos 0) +ℤ total Y links flow n

-- no router sends nothing, and one router more adds what it sends
total-zero : (Y : RouterSet) (links : List Link) (flow : List ℤ) → total Y links flow zero ≡ pos 0
unfolding total
total-zero Y links flow = refl

total-suc : (Y : RouterSet) (links : List Link) (flow : List ℤ) (n : ℕ)
    → total Y links flow (suc n) ≡ (cond (Y n) (out n links flow) (pos 0) +ℤ total Y links flow n)
unfolding total
total-suc Y links flow n = refl

-- the sum of one router's two parts and its other links, in another order
regroup : (y a b : Bool) (x o pa pb t : ℤ)
    → (cond y ((cond a x (pos 0) -ℤ cond b x (pos 0)) +ℤ o) (pos 0) +ℤ ((pa -ℤ pb) +ℤ t))
    ≡ (((cond (y && a) x (pos 0) +ℤ pa) -ℤ (cond (y && b) x (pos 0) +ℤ pb)) +ℤ (cond y o (pos 0) +ℤ t))
regroup true true true x o pa pb t = omega (arith, ints)
regroup true true false x o pa pb t = omega (arith, ints)
regroup true false true x o pa pb t = omega (arith, ints)
regroup true false false x o pa pb t = omega (arith, ints)
regroup false a b x o pa pb t = omega (arith, ints)

-- one link more adds its two ends' parts
total-cons : (Y : RouterSet) (link : Link) (links : List Link) (x : ℤ) (flow : List ℤ) (n : ℕ)
    → total Y (link ∷ links) (x ∷ flow) n ≡ ((part Y x link.a n -ℤ part Y x link.b n) +ℤ total Y links flow n)
unfolding total part
total-cons Y link links x flow zero = refl
total-cons Y link links x flow (suc n) =
    rw (total-cons Y link links x flow n)
    (regroup (Y n) (link.a == n) (link.b == n) x (out n links flow) (part Y x link.a n) (part Y x link.b n)
    (total Y links flow n))

-- where there is no link, nothing is sent
total-nil : (Y : RouterSet) (flow : List ℤ) (n : ℕ) → total Y [] flow n ≡ pos 0
unfolding total
total-nil Y flow zero = refl
total-nil Y flow (suc n) = rw (total-nil Y flow n) (grind (arith, ints, cases_Bool (Y n)))

-- what a set sends out is what its links carry out of it
total-link : (Y : RouterSet) (n : ℕ) (link : Link) (links : List Link) (x : ℤ) (flow : List ℤ) → HasEndsBelow n link
    → total Y (link ∷ links) (x ∷ flow) n ≡ (carried Y link x +ℤ total Y links flow n)
total-link Y n link links x flow ends =
    total-cons Y link links x flow n ∙ rw (part_is Y x link.a n ends.0, part_is Y x link.b n ends.1) refl

-- one link carries out of a set at most what it adds to the set's cost
carries : (a b : Bool) (x : ℤ) (c : ℕ) → nat_abs x ≤ c
    → (cond a x (pos 0) -ℤ cond b x (pos 0)) ≤ℤ pos (cond (differ a b) c 0)
carries true true x c h = omega (arith, ints)
carries true false (pos x) c h = omega (arith, ints)
carries true false (negsuc x) c h = omega (arith, ints)
carries false true (pos x) c h = omega (arith, ints)
carries false true (negsuc x) c h = omega (arith, ints)
carries false false x c h = omega (arith, ints)

-- a set sends out at most its cost
total-le : (Y : RouterSet) (n : ℕ) (links : List Link) (flow : List ℤ) → AllByRecursion (HasEndsBelow n) links
    → IsWithinCaps links flow → total Y links flow n ≤ℤ pos (sum_by (across Y) links)
total-le Y n [] flow _ _ = rw (total-nil Y flow n) (omega (arith, ints))
total-le Y n (link ∷ links) [] _ h = absurd h
total-le Y n (link ∷ links) (x ∷ flow) ends h =
    rw (total-link Y n link links x flow ends.0, sum_by-cons (across Y) link links)
    (omega (arith, ints, carries (Y link.a) (Y link.b) x link.cap h.0, total-le Y n links flow ends.1 h.1))

-- and exactly its cost where all its links are full
total-full : (Y : RouterSet) (n : ℕ) (links : List Link) (flow : List ℤ) → AllByRecursion (HasEndsBelow n) links
    → IsWithinCaps links flow → IsFull Y links flow → total Y links flow n ≡ pos (sum_by (across Y) links)
total-full Y n [] flow ends within full = total-nil Y flow n
total-full Y n (link ∷ links) [] ends within full = absurd full
total-full Y n (link ∷ links) (x ∷ flow) ends within full =
    total-link Y n link links x flow ends.0
    ∙ rw (full.0, total-full Y n links flow ends.1 within.1 full.1, sum_by-cons (across Y) link links) refl

-- and only there
full_from : (Y : RouterSet) (n : ℕ) (links : List Link) (flow : List ℤ) → AllByRecursion (HasEndsBelow n) links
    → IsWithinCaps links flow → total Y links flow n ≡ pos (sum_by (across Y) links) → IsFull Y links flow
full_from Y n [] flow ends within e = tt
full_from Y n (link ∷ links) [] ends within e = absurd within
full_from Y n (link ∷ links) (x ∷ flow) ends within e =
    let one : carried Y link x ≤ℤ pos (across Y link) = carries (Y link.a) (Y link.b) x link.cap within.0 in
    let more : total Y links flow n ≤ℤ pos (sum_by (across Y) links) = total-le Y n links flow ends.1 within.1 in
    let both : (carried Y link x +ℤ total Y links flow n) ≡ pos (across Y link + sum_by (across Y) links) =
    sym (total-link Y n link links x flow ends.0) ∙ e ∙ ap pos (sum_by-cons (across Y) link links) in (
      omega (arith, ints, one, more, both),
      full_from Y n links flow ends.1 within.1
          (omega (arith, ints, one, more, both)),
    )

-- ---- a flow between two routers

-- a number other than s does not change whether s is below the next
ltb-past : (s m : ℕ) → m ≢ s → ltb s (suc m) ≡ ltb s m
ltb-past s m ne = elim (cases_lt s m) [
  | inl l ↦ lt-ltb s (suc m) (omega arith) ∙ sym (lt-ltb s m l)
  | inr g ↦ le-ltb s (suc m) (omega arith) ∙ sym (le-ltb s m g)
]

-- A flow of k from s to t, and a set that holds s and lacks t.
pub record Parted (net : Net) : Type 0 where
  pub s : ℕ
  pub t : ℕ
  pub flow : List ℤ
  pub k : ℕ
  pub Y : RouterSet
  pub is : IsFlow net s t flow k
  pub holds : Y s ≡ true
  pub lacks : Y t ≡ false

-- all that the set sends out comes from s, as every other router keeps the flow
total_is : (net : Net) (p : Parted net) (m : ℕ) → m ≤ net.routers
    → total p.Y net.links p.flow m ≡ cond (ltb p.s m) (pos p.k) (pos 0)
total_is net p zero h = rw (le-ltb p.s 0 (omega arith)) (total-zero p.Y net.links p.flow)
total_is net p (suc m) h =
    let before = total_is net p m (omega arith) in
    total-suc p.Y net.links p.flow m ∙ elim (cases_eq m p.s) [
      | inl e ↦
          rw (before, e, p.holds, p.is.sent, le-ltb p.s p.s (omega arith), lt-ltb p.s (suc p.s) (omega arith))
          (omega (arith, ints))
      | inr ne ↦ rw (before, ltb-past p.s m ne) (elim (cases_Bool (p.Y m)) [
        | inr out_of ↦ rw out_of (grind (arith, ints, cases_Bool (ltb p.s m)))
        | inl y ↦
            rw (y, p.is.kept m (omega arith) ne (λ e. false≢true (sym p.lacks ∙ ap p.Y (sym e) ∙ y)))
            (grind (arith, ints, cases_Bool (ltb p.s m)))
      ])
    ]

-- a set that holds s and lacks t sends out just the flow from s to t
total-flow : (net : Net) (s t : ℕ) (flow : List ℤ) (k : ℕ) → s < net.routers → IsFlow net s t flow k
    → (Y : RouterSet) → Y s ≡ true → Y t ≡ false → total Y net.links flow net.routers ≡ pos k
total-flow net s t flow k small is Y hs ht =
    total_is net (record { s = s; t = t; flow = flow; k = k; Y = Y; is = is; holds = hs; lacks = ht }) net.routers
    (omega arith)
    ∙ rw (lt-ltb s net.routers small) refl

-- weak duality: a flow is at most the cost of each set that holds s and lacks t
pub flow_le : (net : Net) → IsInLimits net → (s t : ℕ) (flow : List ℤ) (k : ℕ) → s < net.routers
    → IsFlow net s t flow k → (Y : RouterSet) → Y s ≡ true → Y t ≡ false → k ≤ cut_value net Y
unfolding cut_value
flow_le net limits s t flow k small is Y hs ht =
    let sent = total-flow net s t flow k small is Y hs ht in
    let le = total-le Y net.routers net.links flow (ends_within net limits) is.within in
    omega (arith, ints, sent, le)

-- a set that a flow fills costs just the flow
pub full_is : (net : Net) → IsInLimits net → (s t : ℕ) (flow : List ℤ) (k : ℕ) → s < net.routers
    → IsFlow net s t flow k → (Y : RouterSet) → Y s ≡ true → Y t ≡ false → IsFull Y net.links flow → cut_value net Y ≡ k
unfolding cut_value
full_is net limits s t flow k small is Y hs ht full =
    let sent = total-flow net s t flow k small is Y hs ht in
    omega (
      arith,
      ints,
      sent,
      total-full Y net.routers net.links flow
          (ends_within net limits) is.within full,
    )

-- and a set that costs just the flow is filled by it
pub full_if : (net : Net) → IsInLimits net → (s t : ℕ) (flow : List ℤ) (k : ℕ) → s < net.routers
    → IsFlow net s t flow k → (Y : RouterSet) → Y s ≡ true → Y t ≡ false → cut_value net Y ≡ k → IsFull Y net.links flow
unfolding cut_value
full_if net limits s t flow k small is Y hs ht e =
    full_from Y net.routers net.links flow (ends_within net limits) is.within
    (total-flow net s t flow k small is Y hs ht ∙ ap pos (sym e))

-- so a set that holds s and lacks t, and that a flow fills, is a least cut
pub full_cut : (net : Net) → IsInLimits net → (s t : ℕ) (flow : List ℤ) (k : ℕ) → s < net.routers
    → IsFlow net s t flow k → (X : RouterSet) → X s ≡ true → X t ≡ false → IsFull X net.links flow
    → IsLeastCut net s t X k
full_cut net limits s t flow k small is X hs ht full = record {
  holds = hs;
  lacks = ht;
  value = full_is net limits s t flow k small is X hs ht full;
  least = λ Y hY lY. flow_le net limits s t flow k small is Y hY lY;
}
