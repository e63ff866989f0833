-- What crossing sets cost: the two inequalities, complements, and how a set goes round a least cut.
use Rattle.std.proofs.Common.{◌≡◌, ℕ, ◌+◌, ◌≤◌, Bool, true, false, cond, not, ◌&&◌, ◌||◌}
use Rattle.std.proofs.Common.{inl, inr, List, [], ◌∷◌, ◌∙◌, ap, arith, refl}
use Rattle.std.specs.Prelude.{sum_by}
use Rattle.std.proofs.lemmas.Bool.{cases_Bool, not_from_true, not_from_false}
use Rattle.std.proofs.lemmas.List.Sums.{sum_by-cons}
use Rattle.cut_model.specs.declared.network.Link.{Link}
use Rattle.cut_model.specs.Net.{Net}
use Rattle.cut_model.specs.Cuts.{RouterSet, differ, across, cut_value, IsLeastCut}
use Rattle.cut_model.specs.Crossing.{◌∩◌, ◌∪◌, ◌∖◌, outside}
use mathlib.Core.Path.{fun_ext}

-- ---- the two inequalities: they hold at each link, so they hold of the sums

-- two sums are at most two others where this holds at each element
sums_le : {X : Type 0} (f g h k : X → ℕ) → ((x : X) → f x + g x ≤ h x + k x) → (xs : List X)
    → sum_by f xs + sum_by g xs ≤ sum_by h xs + sum_by k xs
sums_le f g h k each [] = omega arith
sums_le f g h k each (x ∷ xs) =
    omega (
      arith,
      sum_by-cons f x xs,
      sum_by-cons g x xs,
      sum_by-cons h x xs,
      sum_by-cons k x xs,
      each x,
      sums_le f g h k each xs,
    )

-- one link with ends in the first set by p and q, and in the second by r and s
meet_join_link : (p q r s : Bool) (c : ℕ)
    → cond (differ (p && r) (q && s)) c 0 + cond (differ (p || r) (q || s)) c 0
    ≤ cond (differ p q) c 0 + cond (differ r s) c 0
meet_join_link p q r s c = grind (arith, cases_Bool p, cases_Bool q, cases_Bool r, cases_Bool s)

-- the same link, and what each of the sets has alone
differences_link : (p q r s : Bool) (c : ℕ)
    → cond (differ (p && not r) (q && not s)) c 0 + cond (differ (r && not p) (s && not q)) c 0
    ≤ cond (differ p q) c 0 + cond (differ r s) c 0
differences_link p q r s c = grind (arith, cases_Bool p, cases_Bool q, cases_Bool r, cases_Bool s)

-- what two sets share and what they hold together cost no more than the two
pub meet_join : (net : Net) (X Y : RouterSet)
    → cut_value net (X ∩ Y) + cut_value net (X ∪ Y) ≤ cut_value net X + cut_value net Y
unfolding cut_value
meet_join net X Y =
    sums_le (across (X ∩ Y)) (across (X ∪ Y)) (across X) (across Y)
    (λ link. meet_join_link (X link.a) (X link.b) (Y link.a) (Y link.b) link.cap) net.links

-- what each has alone costs, together, no more than the two
pub differences : (net : Net) (X Y : RouterSet)
    → cut_value net (X ∖ Y) + cut_value net (Y ∖ X) ≤ cut_value net X + cut_value net Y
unfolding cut_value
differences net X Y =
    sums_le (across (X ∖ Y)) (across (Y ∖ X)) (across X) (across Y)
    (λ link. differences_link (X link.a) (X link.b) (Y link.a) (Y link.b) link.cap) net.links

-- ---- complements

-- sets that hold the same routers are equal
pub same_sets : (X Y : RouterSet) → ((router : ℕ) → X router ≡ Y router) → X ≡ Y
same_sets X Y same = fun_ext same

-- a link lies across a set where it lies across the complement
outside_link : (p q : Bool) (c : ℕ) → cond (differ (not p) (not q)) c 0 ≡ cond (differ p q) c 0
outside_link p q c = grind (arith, cases_Bool p, cases_Bool q)

-- a set costs as much as its complement
pub cut_value-outside : (net : Net) (X : RouterSet) → cut_value net (outside X) ≡ cut_value net X
unfolding cut_value
cut_value-outside net X =
    ap (λ (f : Link → ℕ). sum_by f net.links) (fun_ext (λ link. outside_link (X link.a) (X link.b) link.cap))

-- ---- least cuts

-- all least cuts of one router from another cost the same
pub least_once : (net : Net) (s t j k : ℕ) (X Y : RouterSet) → IsLeastCut net s t X j → IsLeastCut net s t Y k → j ≡ k
least_once net s t j k X Y x y = omega (arith, x.least Y y.holds y.lacks, y.least X x.holds x.lacks, x.value, y.value)

-- the complement of a least cut is one the other way round
pub least_turned : (net : Net) (s t k : ℕ) (X : RouterSet) → IsLeastCut net s t X k → IsLeastCut net t s (outside X) k
least_turned net s t k X cut = record {
  holds = not_from_false (X t) cut.lacks;
  lacks = not_from_true (X s) cut.holds;
  value = cut_value-outside net X ∙ cut.value;
  least = λ Y holds lacks. omega (
    arith,
    cut_value-outside net Y,
    cut.least (outside Y) (not_from_false (Y s) lacks) (not_from_true (Y t) holds),
  );
}

-- a set that parts the two and costs no more than a least cut is one
pub least_as_cheap : (net : Net) (s t k : ℕ) (X Y : RouterSet) → IsLeastCut net s t X k → Y s ≡ true → Y t ≡ false
    → cut_value net Y ≤ k → IsLeastCut net s t Y k
least_as_cheap net s t k X Y cut holds lacks cheap = record {
  holds = holds;
  lacks = lacks;
  value = omega (arith, cut.least Y holds lacks);
  least = cut.least;
}

-- a set that parts the two ends of a least cut, one way or the other, costs at least as much
pub parting_costs : (net : Net) (s t k : ℕ) (X Y : RouterSet) → IsLeastCut net s t X k → differ (Y s) (Y t) ≡ true
    → k ≤ cut_value net Y
parting_costs net s t k X Y cut parts = elim (cases_Bool (Y s)) [
  | inl holds ↦ cut.least Y holds (grind (arith, cases_Bool (Y t)))
  | inr lacks ↦ (let low : k ≤ cut_value net (outside Y)
      = cut.least (outside Y) (rw lacks refl) (grind (arith, cases_Bool (Y t))) in
      omega (arith, low, cut_value-outside net Y))
]

-- ---- round a least cut S of q from t, at no cost: with all of it where q is in, and without it where q is out

-- the routers of S in X still part q from t, so S costs no more than they do
pub grow : (net : Net) (q t width : ℕ) (S X : RouterSet) → IsLeastCut net q t S width → X q ≡ true
    → cut_value net (X ∪ S) ≤ cut_value net X
grow net q t width S X cut inside =
    let low : width ≤ cut_value net (X ∩ S)
    = cut.least (X ∩ S) (rw (inside, cut.holds) refl) (rw cut.lacks (grind (arith, cases_Bool (X t)))) in
    omega (arith, low, cut.value, meet_join net X S)

-- the routers of S that X lacks still part q from t, so S costs no more than they do
pub shrink : (net : Net) (q t width : ℕ) (S X : RouterSet) → IsLeastCut net q t S width → X q ≡ false
    → cut_value net (X ∖ S) ≤ cut_value net X
shrink net q t width S X cut out =
    let low : width ≤ cut_value net (S ∖ X) = cut.least (S ∖ X) (rw (out, cut.holds) refl) (rw cut.lacks refl) in
    omega (arith, low, cut.value, differences net X S)
