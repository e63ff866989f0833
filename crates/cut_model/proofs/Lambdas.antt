-- The smallest cost of the sets that part two routers is the one value of their least cuts.
use Rattle.std.proofs.Common.{◌≡◌, ◌≢◌, ℕ, zero, suc, ◌≤◌, true, false, ◌||◌, inl, inr, sym, ◌∙◌, ap}
use Rattle.std.proofs.Common.{refl, arith}
use Rattle.std.proofs.Math.Nat.{min-le_left, min-le_right, min-eq_left, min-eq_right}
use Rattle.std.proofs.lemmas.Bool.{cases_Bool, cases_eq, cases_lt, eq-eqb, ne_eqb, lt-ltb, le-ltb, false≢true}
use Rattle.std.specs.Prelude.{◌==◌, nat_lt, ◌&&◌}
use Rattle.cut_model.proofs.Costs.{cut_value-same}
use Rattle.cut_model.proofs.Crossing.{least_once, least_turned}
use Rattle.cut_model.specs.Crossing.{outside}
use Rattle.cut_model.specs.Cuts.{RouterSet, cut_value, IsLeastCut}
use Rattle.cut_model.specs.Lambda.{lambda, parting, smallest}
use Rattle.cut_model.specs.Net.{Net, IsInLimits}
use mathlib.Core.Path.{fun_ext}

-- ---- the smallest f of some sets is at most each of theirs, and is that of one of them

-- the set with one number more
also : ℕ → RouterSet → RouterSet
also n X router = (router == n) || X router

-- no set that has the numbers of X and others below n has a smaller f
smallest-le : (f : RouterSet → ℕ) (n : ℕ) (X Y : RouterSet) → ((r : ℕ) → n ≤ r → Y r ≡ X r)
    → ((r : ℕ) → X r ≡ true → Y r ≡ true) → smallest f n X ≤ f Y
unfolding also
smallest-le f zero X Y same more = rw (ap f (fun_ext (λ r. same r (omega arith)))) (omega arith)
smallest-le f (suc n) X Y same more = elim (cases_Bool (Y n)) [
  | inl holds ↦
      (let low : smallest f n (also n X) ≤ f Y =
      smallest-le f n (also n X) Y
      (λ r far. elim (cases_eq r n) [
        | inl e ↦ ap Y e ∙ holds ∙ rw (eq-eqb r n e) refl
        | inr ne ↦ same r (omega arith) ∙ rw (ne_eqb r n ne) refl
      ])
      (λ r in_also. elim (cases_eq r n) [
        | inl e ↦ ap Y e ∙ holds
        | inr ne ↦ more r (rw (ne_eqb r n ne) at in_also)
      ]) in
      let least = min-le_right (smallest f n X) (smallest f n (also n X)) in omega (arith, low, least))
  | inr lacks ↦
      (let low : smallest f n X ≤ f Y =
      smallest-le f n X Y
      (λ r far. elim (cases_eq r n) [
        | inl e ↦ ap Y e ∙ lacks ∙ sym (elim (cases_Bool (X r)) [
          | inl in_x ↦ absurd (false≢true (sym lacks ∙ sym (ap Y e) ∙ more r in_x))
          | inr out ↦ out
        ])
        | inr ne ↦ same r (omega arith)
      ])
      more in
      let least = min-le_left (smallest f n X) (smallest f n (also n X)) in omega (arith, low, least))
]

-- and some set has it
smallest-is : (f : RouterSet → ℕ) (n : ℕ) (X : RouterSet) → (Y : RouterSet) × (smallest f n X ≡ f Y)
unfolding also
smallest-is f zero X = (X, refl)
smallest-is f (suc n) X =
    let without = smallest-is f n X in
    let with_n = smallest-is f n (also n X) in
    elim (cases_lt (smallest f n (also n X)) (smallest f n X)) [
      | inl less ↦ (with_n.0, min-eq_right {n = smallest f n (also n X)} {m = smallest f n X} (omega arith) ∙ with_n.1)
      | inr not_less ↦ (without.0, min-eq_left {n = smallest f n X} {m = smallest f n (also n X)} not_less ∙ without.1)
    ]

-- ---- what the sets that part two routers cost

-- a set that parts two routers is as it was after they were parted
parting-same : (a b : ℕ) (X : RouterSet) → X a ≡ true → X b ≡ false → (r : ℕ) → parting a b X r ≡ X r
parting-same a b X holds lacks r = elim (cases_eq r a) [
  | inl e ↦ rw (eq-eqb r a e) (sym (ap X e ∙ holds))
  | inr ne ↦ rw (ne_eqb r a ne) (elim (cases_eq r b) [
    | inl e ↦ rw (eq-eqb r b e) (sym (ap X e ∙ lacks))
    | inr other ↦ rw (ne_eqb r b other) refl
  ])
]

-- the routers of a set that are below n
within : ℕ → RouterSet → RouterSet
within n X router = nat_lt router n && X router

-- no set that parts the two costs less
lambda-le : (net : Net) → IsInLimits net → (a b : ℕ) (Y : RouterSet) → Y a ≡ true → Y b ≡ false
    → lambda net a b ≤ cut_value net Y
unfolding lambda within
lambda-le net limits a b Y holds lacks =
    let few : RouterSet = within net.routers Y in
    let low : lambda net a b ≤ cut_value net (parting a b few) =
    smallest-le (λ X. cut_value net (parting a b X)) net.routers (λ router. false) few
    (λ r far. rw (le-ltb r net.routers far) refl) (λ r absent. absurd (false≢true absent)) in
    let alike : cut_value net (parting a b few) ≡ cut_value net Y =
    cut_value-same net limits (parting a b few) Y (λ r small. elim (cases_eq r a) [
      | inl e ↦ rw (eq-eqb r a e) (sym (ap Y e ∙ holds))
      | inr ne ↦ rw (ne_eqb r a ne) (elim (cases_eq r b) [
        | inl e ↦ rw (eq-eqb r b e) (sym (ap Y e ∙ lacks))
        | inr other ↦ rw (ne_eqb r b other, lt-ltb r net.routers small) refl
      ])
    ]) in
    omega (arith, low, alike)

-- and some set that parts them costs just that
lambda-is : (net : Net) → IsInLimits net → (a b : ℕ) → a ≢ b → (X : RouterSet) × IsLeastCut net a b X (lambda net a b)
unfolding lambda
lambda-is net limits a b apart =
    let found = smallest-is (λ X. cut_value net (parting a b X)) net.routers (λ router. false) in (
      parting a b found.0,
      record {
        holds = rw (eq-eqb a a refl) refl;
        lacks = rw (ne_eqb b a (λ e. apart (sym e)), eq-eqb b b refl) refl;
        value = sym found.1;
        least = λ Y holds lacks. lambda-le net limits a b Y holds lacks;
      },
    )

-- two routers that differ have a least cut of that value, and each of their least cuts has it
pub lambda_value : (net : Net) → IsInLimits net → (a b : ℕ) → a ≢ b
    → ((X : RouterSet) × IsLeastCut net a b X (lambda net a b))
    × ((X : RouterSet) (k : ℕ) → IsLeastCut net a b X k → k ≡ lambda net a b)
lambda_value net limits a b apart =
    let one = lambda-is net limits a b apart in
    (one, λ X k cut. least_once net a b k (lambda net a b) X one.0 cut one.1)

-- it is the same both ways
pub lambda_turned : (net : Net) → IsInLimits net → (a b : ℕ) → a ≢ b → lambda net a b ≡ lambda net b a
lambda_turned net limits a b apart =
    let one = lambda-is net limits a b apart in
    (lambda_value net limits b a (λ e. apart (sym e))).1 (outside one.0) (lambda net a b)
    (least_turned net a b (lambda net a b) one.0 one.1)
