-- Two routers have a flow that is as great as their least cut.
use Rattle.std.proofs.Common.{◌≡◌, inl, inr, ◌⊎◌, ℕ, zero, suc, ◌+◌, ◌-◌, ◌<◌, ◌≤◌, Bool, true, false, cond}
use Rattle.std.proofs.Common.{◌&&◌}
use Rattle.std.proofs.Common.{List, [], ◌∷◌, length, replicate, sym, ◌∙◌, ap, arith, refl, subst}
use Rattle.std.specs.Prelude.{ℤ, pos, negsuc, ◌+ℤ◌, ◌-ℤ◌, ◌==◌, nat_abs}
use Rattle.std.specs.List.{AllByRecursion}
use Rattle.std.proofs.lemmas.Bool.{cases_Bool, cases_eq, eq-eqb, eqb-true, false≢true}
use Rattle.std.proofs.lemmas.Int.{ints}
use Rattle.cut_model.specs.declared.network.Link.{Link}
use Rattle.cut_model.specs.Net.{Net, IsInLimits}
use Rattle.cut_model.specs.Cuts.{RouterSet, IsLeastCut, across}
use Rattle.cut_model.specs.Flow.{IsFlow, IsFull, IsWithinCaps, carried, out, sends}
use Rattle.cut_model.specs.Terminals.{number_in}
use Rattle.cut_model.proofs.Counting.{number_in-le, number_in-new, with_number, with_number-other, with_number-same}
use Rattle.cut_model.proofs.Duality.{HasEndsBelow, ends_within, full_is}
use Rattle.dinic_flow.proofs.Flows.{flow-none}
use Rattle.dinic_flow.proofs.Sending.{flow-more}
use Rattle.dinic_flow.specs.Sending.{SendsMore, only_at}

-- The two flows carry the same on each link with an end outside of a set.
abbrev IsSameOutside : RouterSet → List Link → List ℤ → List ℤ → Type 0
IsSameOutside X [] before after = Unit {0}
IsSameOutside X (link ∷ links) [] after = Unit {0}
IsSameOutside X (link ∷ links) (x ∷ before) [] = ⊥
IsSameOutside X (link ∷ links) (x ∷ before) (y ∷ after) =
    ((X link.a && X link.b) ≡ false → y ≡ x) × IsSameOutside X links before after

-- A flow that carries one more from s to v than another, by links inside of a set alone.
record IsWay (X : RouterSet) (links : List Link) (before : List ℤ) (s v : ℕ) : Type 0 where
  after : List ℤ
  within : IsWithinCaps links after
  same : IsSameOutside X links before after
  sends : SendsMore links before after s v 1

-- The same from a flow that is in between.
record IsStep (X : RouterSet) (links : List Link) (before mid : List ℤ) (u v : ℕ) : Type 0 where
  after : List ℤ
  within : IsWithinCaps links after
  same : IsSameOutside X links before after
  sends : SendsMore links mid after u v 1

-- A link may carry one more out of a set, to a router v.
record Leaves (n : ℕ) (X : RouterSet) (links : List Link) (before : List ℤ) : Type 0 where
  u : ℕ
  v : ℕ
  low : v < n
  held : X u ≡ true
  fresh : X v ≡ false
  push : (mid : List ℤ) → IsWithinCaps links mid → IsSameOutside X links before mid
      → IsStep (with_number v X) links before mid u v

-- a set with one more router holds what it held
still_held : (v : ℕ) (X : RouterSet) (r : ℕ) → X r ≡ true → with_number v X r ≡ true
still_held v X r held = elim (cases_eq r v) [
  | inl e ↦ rw e (with_number-same v X)
  | inr ne ↦ with_number-other v X r ne ∙ held
]

-- what isn't inside of the greater set isn't inside of the smaller one
not_inside : (v : ℕ) (X : RouterSet) (a b : ℕ) → (with_number v X a && with_number v X b) ≡ false
    → (X a && X b) ≡ false
not_inside v X a b out = elim (cases_Bool (X a)) [
  | inr lacks ↦ rw lacks refl
  | inl held ↦ elim (cases_Bool (X b)) [
    | inr lacks ↦ rw (held, lacks) refl
    | inl too ↦ absurd (false≢true (sym out ∙ rw (still_held v X a held, still_held v X b too) refl))
  ]
]

-- flows that are the same outside of a set are so outside of a greater one
same_more : (v : ℕ) (X : RouterSet) (links : List Link) (before after : List ℤ) → IsSameOutside X links before after
    → IsSameOutside (with_number v X) links before after
same_more v X [] before after same = tt
same_more v X (link ∷ links) [] after same = tt
same_more v X (link ∷ links) (x ∷ before) [] same = absurd same
same_more v X (link ∷ links) (x ∷ before) (y ∷ after) same =
    (λ out. same.0 (not_inside v X link.a link.b out), same_more v X links before after same.1)

-- a flow is the same as itself
same_self : (X : RouterSet) (links : List Link) (before : List ℤ) → IsSameOutside X links before before
same_self X [] before = tt
same_self X (link ∷ links) [] = tt
same_self X (link ∷ links) (x ∷ before) = (λ out. refl, same_self X links before)

-- a link that isn't full can carry one more
one_more : (x : ℤ) (c : ℕ) → nat_abs x ≤ c → (nat_abs (x +ℤ pos 1) ≤ c) ⊎ (x ≡ pos c)
one_more (pos a) c h = elim (cases_eq a c) [
  | inl e ↦ inr (ap pos e)
  | inr ne ↦ inl (omega (arith, ints, h, ne))
]
one_more (negsuc zero) c h = inl (omega (arith, ints, h))
one_more (negsuc (suc a)) c h = inl (omega (arith, ints, h))

-- the other way, too
one_less : (x : ℤ) (c : ℕ) → nat_abs x ≤ c → (nat_abs (x -ℤ pos 1) ≤ c) ⊎ ((pos 0 -ℤ x) ≡ pos c)
one_less (pos zero) zero h = inr refl
one_less (pos zero) (suc c) h = inl (omega (arith, ints, h))
one_less (pos (suc a)) c h = inl (omega (arith, ints, h))
one_less (negsuc a) c h = elim (cases_eq (suc a) c) [
  | inl e ↦ inr (omega (arith, ints, e))
  | inr ne ↦ inl (omega (arith, ints, h, ne))
]

-- what one link more carries is sent from one end to the other
sent_there : (a b : Bool) (y o : ℤ)
    → ((cond a (y +ℤ pos 1) (pos 0) -ℤ cond b (y +ℤ pos 1) (pos 0)) +ℤ o)
    ≡ ((((cond a y (pos 0) -ℤ cond b y (pos 0)) +ℤ o) +ℤ cond a (pos 1) (pos 0)) -ℤ cond b (pos 1) (pos 0))
sent_there true true y o = omega (arith, ints)
sent_there true false y o = omega (arith, ints)
sent_there false true y o = omega (arith, ints)
sent_there false false y o = omega (arith, ints)

sent_back : (a b : Bool) (y o : ℤ)
    → ((cond a (y -ℤ pos 1) (pos 0) -ℤ cond b (y -ℤ pos 1) (pos 0)) +ℤ o)
    ≡ ((((cond a y (pos 0) -ℤ cond b y (pos 0)) +ℤ o) +ℤ cond b (pos 1) (pos 0)) -ℤ cond a (pos 1) (pos 0))
sent_back true true y o = omega (arith, ints)
sent_back true false y o = omega (arith, ints)
sent_back false true y o = omega (arith, ints)
sent_back false false y o = omega (arith, ints)

-- one link more
sent_behind : (l o n p q : ℤ) → n ≡ ((o +ℤ p) -ℤ q) → (l +ℤ n) ≡ (((l +ℤ o) +ℤ p) -ℤ q)
sent_behind l o n p q e = omega (arith, ints, e)

-- A link, and the links behind it, with what a flow carries on them.
record Links : Type 0 where
  link : Link
  links : List Link
  x : ℤ
  before : List ℤ

module _ (X : RouterSet) (f : Links) where
  -- the first link carries one more from its end a
  push_there : X f.link.a ≡ true → X f.link.b ≡ false → nat_abs (f.x +ℤ pos 1) ≤ f.link.cap → (mid : List ℤ)
      → IsWithinCaps (f.link ∷ f.links) mid → IsSameOutside X (f.link ∷ f.links) (f.x ∷ f.before) mid
      → IsStep (with_number f.link.b X) (f.link ∷ f.links) (f.x ∷ f.before) mid f.link.a f.link.b
  push_there ha hb more [] within same = absurd within
  push_there ha hb more (y ∷ mid) within same =
      let e : y ≡ f.x = same.0 (rw (ha, hb) refl) in record {
        after = (y +ℤ pos 1) ∷ mid;
        within = (subst (λ (z : ℤ). nat_abs (z +ℤ pos 1) ≤ f.link.cap) (sym e) more, within.1);
        same = (
          λ out. absurd (false≢true (sym out
              ∙ rw (still_held f.link.b X f.link.a ha, with_number-same f.link.b X) refl)),
          same_more f.link.b X f.links f.before mid same.1,
        );
        sends = λ r. sent_there (f.link.a == r) (f.link.b == r) y (out r f.links mid);
      }

  -- or from its end b
  push_back : X f.link.b ≡ true → X f.link.a ≡ false → nat_abs (f.x -ℤ pos 1) ≤ f.link.cap → (mid : List ℤ)
      → IsWithinCaps (f.link ∷ f.links) mid → IsSameOutside X (f.link ∷ f.links) (f.x ∷ f.before) mid
      → IsStep (with_number f.link.a X) (f.link ∷ f.links) (f.x ∷ f.before) mid f.link.b f.link.a
  push_back hb ha more [] within same = absurd within
  push_back hb ha more (y ∷ mid) within same =
      let e : y ≡ f.x = same.0 (rw ha refl) in record {
        after = (y -ℤ pos 1) ∷ mid;
        within = (subst (λ (z : ℤ). nat_abs (z -ℤ pos 1) ≤ f.link.cap) (sym e) more, within.1);
        same = (
          λ out. absurd (false≢true (sym out
              ∙ rw (still_held f.link.a X f.link.b hb, with_number-same f.link.a X) refl)),
          same_more f.link.a X f.links f.before mid same.1,
        );
        sends = λ r. sent_back (f.link.a == r) (f.link.b == r) y (out r f.links mid);
      }

  -- or a link behind it does
  push_behind : (u v : ℕ)
      → ((mid : List ℤ) → IsWithinCaps f.links mid → IsSameOutside X f.links f.before mid
      → IsStep (with_number v X) f.links f.before mid u v)
      → (mid : List ℤ) → IsWithinCaps (f.link ∷ f.links) mid → IsSameOutside X (f.link ∷ f.links) (f.x ∷ f.before) mid
      → IsStep (with_number v X) (f.link ∷ f.links) (f.x ∷ f.before) mid u v
  push_behind u v push [] within same = absurd within
  push_behind u v push (y ∷ mid) within same = let p = push mid within.1 same.1 in record {
    after = y ∷ p.after;
    within = (within.0, p.within);
    same = (λ out. same.0 (not_inside v X f.link.a f.link.b out), p.same);
    sends = λ r. sent_behind (sends r f.link y) (out r f.links mid) (out r f.links p.after) (only_at u r 1)
        (only_at v r 1) (p.sends r);
  }

  -- a link from a set's inside to the outside is full, or leaves it
  first_leaves : (n : ℕ) → HasEndsBelow n f.link → nat_abs f.x ≤ f.link.cap
      → Leaves n X (f.link ∷ f.links) (f.x ∷ f.before) ⊎ (carried X f.link f.x ≡ pos (across X f.link))
  first_leaves n ends within = of_ends (cases_Bool (X f.link.a)) (cases_Bool (X f.link.b))
    where
      of_there : X f.link.a ≡ true → X f.link.b ≡ false
          → (nat_abs (f.x +ℤ pos 1) ≤ f.link.cap) ⊎ (f.x ≡ pos f.link.cap)
          → Leaves n X (f.link ∷ f.links) (f.x ∷ f.before) ⊎ (carried X f.link f.x ≡ pos (across X f.link))
      of_there ha hb (inl more) = inl (record {
        u = f.link.a;
        v = f.link.b;
        low = ends.1;
        held = ha;
        fresh = hb;
        push = push_there ha hb more;
      })
      of_there ha hb (inr full) = inr (rw (ha, hb) (omega (arith, ints, full)))

      of_back : X f.link.b ≡ true → X f.link.a ≡ false
          → (nat_abs (f.x -ℤ pos 1) ≤ f.link.cap) ⊎ ((pos 0 -ℤ f.x) ≡ pos f.link.cap)
          → Leaves n X (f.link ∷ f.links) (f.x ∷ f.before) ⊎ (carried X f.link f.x ≡ pos (across X f.link))
      of_back hb ha (inl more) = inl (record {
        u = f.link.b;
        v = f.link.a;
        low = ends.0;
        held = hb;
        fresh = ha;
        push = push_back hb ha more;
      })
      of_back hb ha (inr full) = inr (rw (ha, hb) full)

      of_ends : (X f.link.a ≡ true) ⊎ (X f.link.a ≡ false) → (X f.link.b ≡ true) ⊎ (X f.link.b ≡ false)
          → Leaves n X (f.link ∷ f.links) (f.x ∷ f.before) ⊎ (carried X f.link f.x ≡ pos (across X f.link))
      of_ends (inl ha) (inl hb) = inr (rw (ha, hb) (omega (arith, ints)))
      of_ends (inl ha) (inr hb) = of_there ha hb (one_more f.x f.link.cap within)
      of_ends (inr ha) (inl hb) = of_back hb ha (one_less f.x f.link.cap within)
      of_ends (inr ha) (inr hb) = inr (rw (ha, hb) refl)

-- a set is left by a link that may carry one more, or is full
leaves_or_full : (n : ℕ) (X : RouterSet) (links : List Link) (before : List ℤ)
    → AllByRecursion (HasEndsBelow n) links → IsWithinCaps links before
    → Leaves n X links before ⊎ IsFull X links before
leaves_or_full n X [] [] ends within = inr tt
leaves_or_full n X [] (x ∷ before) ends within = absurd within
leaves_or_full n X (link ∷ links) [] ends within = absurd within
leaves_or_full n X (link ∷ links) (x ∷ before) ends within =
    of_first (first_leaves X (record { link = link; links = links; x = x; before = before }) n ends.0 within.0)
    (leaves_or_full n X links before ends.1 within.1)
  where
    of_first : Leaves n X (link ∷ links) (x ∷ before) ⊎ (carried X link x ≡ pos (across X link))
        → Leaves n X links before ⊎ IsFull X links before
        → Leaves n X (link ∷ links) (x ∷ before) ⊎ IsFull X (link ∷ links) (x ∷ before)
    of_first (inl leaves) rest = inl leaves
    of_first (inr full) (inl leaves) = inl (record {
      u = leaves.u;
      v = leaves.v;
      low = leaves.low;
      held = leaves.held;
      fresh = leaves.fresh;
      push = push_behind X (record { link = link; links = links; x = x; before = before }) leaves.u leaves.v
          leaves.push;
    })
    of_first (inr full) (inr rest) = inr (full, rest)

-- From s there is a way to each router of a set that holds s.
record IsGrown (net : Net) (before : List ℤ) (s : ℕ) (X : RouterSet) : Type 0 where
  start : X s ≡ true
  ways : (v : ℕ) → X v ≡ true → IsWay X net.links before s v

-- A full set parts s from t.
record IsParted (net : Net) (before : List ℤ) (s t : ℕ) : Type 0 where
  X : RouterSet
  holds : X s ≡ true
  lacks : X t ≡ false
  full : IsFull X net.links before

-- Either of the two.
abbrev Found : Net → List ℤ → ℕ → ℕ → Type 0
Found net before s t = ((X : RouterSet) × IsWay X net.links before s t) ⊎ IsParted net before s t

-- what was sent to u and from there to v was sent to v
sent_on : (o m n p q r : ℤ) → m ≡ ((o +ℤ p) -ℤ q) → n ≡ ((m +ℤ q) -ℤ r) → n ≡ ((o +ℤ p) -ℤ r)
sent_on o m n p q r e f = omega (arith, ints, e, f)

-- what is sent to where it comes from changes nothing
sent_home : (o p : ℤ) → o ≡ ((o +ℤ p) -ℤ p)
sent_home o p = omega (arith, ints)

-- A flow in a network, and two of its routers.
record Start : Type 0 where
  net : Net
  before : List ℤ
  s : ℕ
  t : ℕ
  ends : AllByRecursion (HasEndsBelow net.routers) net.links
  within : IsWithinCaps net.links before

module _ (at : Start) where
  -- the set of s alone
  grown_first : IsGrown at.net at.before at.s (λ (r : ℕ). r == at.s)
  grown_first = record {
    start = eq-eqb at.s at.s refl;
    ways = λ v is. record {
      after = at.before;
      within = at.within;
      same = same_self (λ (r : ℕ). r == at.s) at.net.links at.before;
      sends = λ r. subst (λ (w : ℕ). out r at.net.links at.before
          ≡ ((out r at.net.links at.before +ℤ only_at at.s r 1) -ℤ only_at w r 1)) (sym (eqb-true v at.s is))
          (sent_home (out r at.net.links at.before) (only_at at.s r 1));
    };
  }

  -- a set grows by a router to which a link leads
  grown_more : (X : RouterSet) → IsGrown at.net at.before at.s X
      → (leaves : Leaves at.net.routers X at.net.links at.before)
      → IsGrown at.net at.before at.s (with_number leaves.v X)
  grown_more X grown leaves = record { start = still_held leaves.v X at.s grown.start; ways = way }
    where
      new_way : IsWay (with_number leaves.v X) at.net.links at.before at.s leaves.v
      new_way =
          let way = grown.ways leaves.u leaves.held in
          let step = leaves.push way.after way.within way.same in record {
            after = step.after;
            within = step.within;
            same = step.same;
            sends = λ r. sent_on (out r at.net.links at.before) (out r at.net.links way.after)
                (out r at.net.links step.after) (only_at at.s r 1) (only_at leaves.u r 1) (only_at leaves.v r 1)
                (way.sends r) (step.sends r);
          }

      old_way : (v : ℕ) → X v ≡ true → IsWay (with_number leaves.v X) at.net.links at.before at.s v
      old_way v held = let way = grown.ways v held in record {
        after = way.after;
        within = way.within;
        same = same_more leaves.v X at.net.links at.before way.after way.same;
        sends = way.sends;
      }

      way : (v : ℕ) → with_number leaves.v X v ≡ true → IsWay (with_number leaves.v X) at.net.links at.before at.s v
      way v held = elim (cases_eq v leaves.v) [
        | inl e ↦ subst (IsWay (with_number leaves.v X) at.net.links at.before at.s) (sym e) new_way
        | inr ne ↦ old_way v (sym (with_number-other leaves.v X v ne) ∙ held)
      ]

  -- where a set has grown as far as it can, it is full, or there is a way to t
  found_by : (X : RouterSet) → IsGrown at.net at.before at.s X → (X at.t ≡ true) ⊎ (X at.t ≡ false)
      → Leaves at.net.routers X at.net.links at.before ⊎ IsFull X at.net.links at.before
      → (Leaves at.net.routers X at.net.links at.before → Found at.net at.before at.s at.t)
      → Found at.net at.before at.s at.t
  found_by X grown (inl held) rest on = inl (X, grown.ways at.t held)
  found_by X grown (inr lacks) (inl leaves) on = on leaves
  found_by X grown (inr lacks) (inr full) on =
      inr (record { X = X; holds = grown.start; lacks = lacks; full = full })

  -- one more can be sent from s to t, or a full set parts the two
  way_or_parted : (fuel : ℕ) (X : RouterSet) → IsGrown at.net at.before at.s X
      → number_in X at.net.routers + fuel ≡ at.net.routers → Found at.net at.before at.s at.t
  way_or_parted zero X grown count =
      found_by X grown (cases_Bool (X at.t)) (leaves_or_full at.net.routers X at.net.links at.before at.ends at.within)
      (λ leaves. absurd (omega (
        arith,
        count,
        number_in-new X leaves.v at.net.routers leaves.fresh leaves.low,
        number_in-le (with_number leaves.v X) at.net.routers,
      )))
  way_or_parted (suc fuel) X grown count =
      found_by X grown (cases_Bool (X at.t)) (leaves_or_full at.net.routers X at.net.links at.before at.ends at.within)
      (λ leaves. way_or_parted fuel (with_number leaves.v X) (grown_more X grown leaves)
      (omega (arith, count, number_in-new X leaves.v at.net.routers leaves.fresh leaves.low)))

  -- so it is from the set of s alone
  more_or_parted : Found at.net at.before at.s at.t
  more_or_parted =
      let first : RouterSet = λ r. r == at.s in
      way_or_parted (at.net.routers - number_in first at.net.routers) first grown_first
      (omega (arith, number_in-le first at.net.routers))

-- where nothing flows, nothing is above a capacity
still_within : (links : List Link) → IsWithinCaps links (replicate (length links) (pos 0))
still_within [] = tt
still_within (link ∷ links) = (omega arith, still_within links)

module _ (net : Net) (limits : IsInLimits net) (s t : ℕ) (low : s < net.routers) (X : RouterSet) (k : ℕ)
    (cut : IsLeastCut net s t X k) where
  -- a flow that is less than the least cut is no greatest one
  rise : (d k2 : ℕ) (flow : List ℤ) → IsFlow net s t flow k2 → k2 + d ≡ k → (most : List ℤ) × IsFlow net s t most k
  rise zero k2 flow is sum = (flow, subst (IsFlow net s t flow) (omega (arith, sum)) is)
  rise (suc d) k2 flow is sum =
      of_found (more_or_parted (record {
        net = net;
        before = flow;
        s = s;
        t = t;
        ends = ends_within net limits;
        within = is.within;
      }))
      (λ more is2. rise d (k2 + 1) more is2 (omega (arith, sum)))
    where
      of_found : Found net flow s t → ((more : List ℤ) → IsFlow net s t more (k2 + 1)
          → (most : List ℤ) × IsFlow net s t most k) → (most : List ℤ) × IsFlow net s t most k
      of_found (inl way) on =
          on way.1.after (flow-more net s t flow way.1.after k2 1 is way.1.sends way.1.within)
      of_found (inr parted) on =
          let value = full_is net limits s t flow k2 low is parted.X parted.holds parted.lacks parted.full in
          absurd (omega (arith, sum, value, cut.least parted.X parted.holds parted.lacks))

  -- two routers have a flow that is as great as their least cut
  pub some_flow : (flow : List ℤ) × IsFlow net s t flow k
  some_flow =
      let still = replicate (length net.links) (pos 0) in
      rise k 0 still (flow-none net s t still
      (λ e. false≢true (sym cut.lacks ∙ ap X (sym e) ∙ cut.holds)) (still_within net.links) refl) (omega arith)
