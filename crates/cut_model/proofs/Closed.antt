-- A set that is closed under what still leads on is full.
use Rattle.std.proofs.Common.{◌≡◌, inl, inr, ℕ, ◌≤◌, Bool, true, false, cond, List, [], ◌∷◌, sym, ◌∙◌, arith, refl}
use Rattle.std.specs.Prelude.{ℤ, pos, negsuc, ◌-ℤ◌, ◌≤ℤ◌, ◌<ℤ◌, neg_ℤ, nat_abs}
use Rattle.std.proofs.lemmas.Bool.{false≢true}
use Rattle.std.proofs.lemmas.Int.{ints}
use Rattle.cut_model.specs.declared.network.Link.{Link}
use Rattle.cut_model.specs.Cuts.{RouterSet, differ}
use Rattle.cut_model.specs.Flow.{IsClosed, IsFull, IsWithinCaps}

-- what is not less than c is at least c
not_less : (z : ℤ) (c : ℕ) → (z <ℤ pos c → ⊥) → pos c ≤ℤ z
not_less z c h = grind (arith, ints)

-- a link that leads nowhere out of a set carries its whole capacity out of it, if it leaves it
full_link : (a b : Bool) (x : ℤ) (c : ℕ) → nat_abs x ≤ c
    → (a ≡ true → b ≡ false → x <ℤ pos c → ⊥) → (b ≡ true → a ≡ false → neg_ℤ x <ℤ pos c → ⊥)
    → (cond a x (pos 0) -ℤ cond b x (pos 0)) ≡ pos (cond (differ a b) c 0)
full_link true true x c h there back = omega (arith, ints)
full_link false false x c h there back = omega (arith, ints)
full_link true false (pos x) c h there back =
    let e : pos x <ℤ pos c → ⊥ = there refl refl in
    let g : pos c ≤ℤ pos x = not_less (pos x) c e in omega (arith, ints, g)
full_link true false (negsuc x) c h there back = absurd (there refl refl (omega (arith, ints)))
full_link false true (pos x) c h there back =
    let g : pos c ≤ℤ neg_ℤ (pos x) = not_less (neg_ℤ (pos x)) c (back refl refl) in omega (arith, ints, g)
full_link false true (negsuc x) c h there back =
    let g : pos c ≤ℤ neg_ℤ (negsuc x) = not_less (neg_ℤ (negsuc x)) c (back refl refl) in omega (arith, ints, g)

-- a set that no link leads out of is full
pub closed_full : (links : List Link) (flow : List ℤ) (X : RouterSet) → IsWithinCaps links flow
    → IsClosed X links flow → IsFull X links flow
closed_full [] flow X within closed = tt
closed_full (link ∷ links) [] X within closed = absurd within
closed_full (link ∷ links) (x ∷ flow) X within closed = (
  full_link (X link.a) (X link.b) x link.cap within.0
      (λ ha hb lt. false≢true (sym hb ∙ closed link.a link.b ha (inl (inl (refl, refl, lt)))))
      (λ hb ha lt. false≢true (sym ha ∙ closed link.b link.a hb (inl (inr (refl, refl, lt))))),
  closed_full links flow X within.1 (λ u v hu leads. closed u v hu (inr leads)),
)
