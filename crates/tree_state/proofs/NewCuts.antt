-- The least cuts after a commit: the new ones of s and of t, and the old ones that change their other end.
use Rattle.std.proofs.Common.{◌≡◌, ◌≢◌, ◌⊎◌, inl, inr, ℕ, ◌≤◌, Bool, true, false, not, ◌&&◌, ◌||◌}
use Rattle.std.proofs.Common.{◌∙◌, arith, refl}
use Rattle.std.proofs.lemmas.Bool.{cases_Bool, cases_eq}
use Rattle.cut_model.specs.Net.{Net}
use Rattle.cut_model.specs.Cuts.{RouterSet, cut_value, IsLeastCut}
use Rattle.cut_model.specs.Crossing.{◌∖◌, ◌∩◌, ◌∪◌, outside}
use Rattle.cut_model.proofs.Crossing.{grow, shrink, meet_join, differences, cut_value-outside, same_sets}
use Rattle.cut_model.proofs.Crossing.{least_turned, least_as_cheap}
use Rattle.tree_state.specs.Tables.{Table}
use Rattle.tree_state.proofs.Stages.{Stage, Commit, HasCuts, IsPlain, IsSwap, under, under-self, deeper, t-done}
use Rattle.tree_state.proofs.Stages.{swap-not_root, swap-holds, plain-lacks}
use Rattle.tree_state.proofs.Moved.{moved, moved-s, moved-t}
use Rattle.tree_state.proofs.Swap.{kept}
use Rattle.tree_state.proofs.Uncross.{uncross, uncross-le, uncross-high, uncross-hanging}
use Rattle.tree_state.proofs.Branches.{region-root, region-other, uncrossed, moved-uncrossed}

-- ---- the far side of t's parent q: all that isn't under t

-- it is a least cut of q from t
parent_cut : (net : Net) (g : Stage) (c : Commit g) (width : Table) → HasCuts net g width → c.t ≢ g.root
    → IsLeastCut net (g.up c.t) c.t (outside (under g c.t)) (width c.t)
parent_cut net g c width cuts not_root =
    least_turned net c.t (g.up c.t) (width c.t) (under g c.t) (cuts c.t (t-done g c not_root))

-- uncrossing leaves q where it is
parent_stays : (g : Stage) (c : Commit g) → c.t ≢ g.root → uncross g c g.routers (g.up c.t) ≡ c.X (g.up c.t)
parent_stays g c not_root = uncross-high g c (g.up c.t) (omega (arith, deeper g c.t not_root)) g.routers

-- the uncrossed side costs no more than the least cut that it was made from
uncross-cheap : (net : Net) (g : Stage) (c : Commit g) (width : Table) → HasCuts net g width → (k : ℕ)
    → IsLeastCut net c.s c.t c.X k → cut_value net (uncross g c g.routers) ≤ k
uncross-cheap net g c width cuts k cut = omega (arith, uncross-le net g c width cuts g.routers, cut.value)

-- ---- without a swap: what moves is a least cut of s from t

-- a set within another is the set without what is outside of the other
within_not_outside : (u w : Bool) → (u && w) ≡ (u && not (not w))
within_not_outside u w = grind (arith, cases_Bool u, cases_Bool w)

-- at the root, what moves is the whole uncrossed side
moved-root_cheap : (net : Net) (g : Stage) (c : Commit g) (k : ℕ) → cut_value net (uncross g c g.routers) ≤ k
    → c.t ≡ g.root → cut_value net (moved g c) ≤ k
moved-root_cheap net g c k cheap e =
    let whole : uncrossed g c ≡ uncross g c g.routers
    = same_sets (uncrossed g c) (uncross g c g.routers)
    (λ i. rw (region-root g c i e) (grind (arith, cases_Bool (uncross g c g.routers i)))) in
    rw (moved-uncrossed g c, whole) cheap

-- elsewhere it is the uncrossed side without the far side of q, which lacks q
moved-other_cheap : (net : Net) (g : Stage) (c : Commit g) (width : Table) → HasCuts net g width → IsPlain g c
    → (k : ℕ) → cut_value net (uncross g c g.routers) ≤ k → c.t ≢ g.root → cut_value net (moved g c) ≤ k
moved-other_cheap net g c width cuts plain k cheap not_root =
    let without : uncrossed g c ≡ uncross g c g.routers ∖ outside (under g c.t)
    = same_sets (uncrossed g c) (uncross g c g.routers ∖ outside (under g c.t))
    (λ i. rw (region-other g c i not_root) (within_not_outside (uncross g c g.routers i) (under g c.t i))) in
    rw (moved-uncrossed g c, without)
    (omega (
      arith,
      cheap,
      shrink net (g.up c.t) c.t (width c.t) (outside (under g c.t)) (uncross g c g.routers)
          (parent_cut net g c width cuts not_root) (parent_stays g c not_root ∙ plain-lacks g c plain not_root),
    ))

-- so it is a least cut
pub cut-moved : (net : Net) (g : Stage) (c : Commit g) (width : Table) → HasCuts net g width → IsPlain g c → (k : ℕ)
    → IsLeastCut net c.s c.t c.X k → IsLeastCut net c.s c.t (moved g c) k
cut-moved net g c width cuts plain k cut =
    least_as_cheap net c.s c.t k c.X (moved g c) cut (moved-s g c) (moved-t g c) (elim (cases_eq c.t g.root) [
      | inl e ↦ moved-root_cheap net g c k (uncross-cheap net g c width cuts k cut) e
      | inr not_root ↦
          moved-other_cheap net g c width cuts plain k (uncross-cheap net g c width cuts k cut) not_root
    ])

-- ---- with a swap: what t keeps is a least cut of t from s

-- what is in a set and not in its part of another is outside of the other and of the complement
kept_not_joined : (u w : Bool) → (w && not (u && w)) ≡ not (u || not w)
kept_not_joined u w = grind (arith, cases_Bool u, cases_Bool w)

-- The uncrossed side joined with the far side of q.
abbrev joined : (g : Stage) → Commit g → RouterSet
joined g c = uncross g c g.routers ∪ outside (under g c.t)

-- what t keeps is the complement of that
kept_is : (g : Stage) (c : Commit g) → c.t ≢ g.root → kept g c ≡ outside (joined g c)
kept_is g c not_root =
    same_sets (kept g c) (outside (joined g c))
    (λ i. rw (moved-uncrossed g c, region-other g c i not_root)
    (kept_not_joined (uncross g c g.routers i) (under g c.t i)))

-- which is a least cut of s from t, as it holds q, so what t keeps is one of t from s
pub cut-kept : (net : Net) (g : Stage) (c : Commit g) (width : Table) → HasCuts net g width → IsSwap g c → (k : ℕ)
    → IsLeastCut net c.s c.t c.X k → IsLeastCut net c.t c.s (kept g c) k
cut-kept net g c width cuts swap k cut =
    rw (kept_is g c not_root)
    (least_turned net c.s c.t k (joined g c)
    (least_as_cheap net c.s c.t k c.X (joined g c) cut
    (rw (uncross-hanging g c c.s c.neighbour g.routers, c.holds) refl)
    (rw (uncross-high g c c.t (omega arith) g.routers, c.lacks, under-self g c.t not_root) refl)
    cheap))
  where
    not_root : c.t ≢ g.root
    not_root = swap-not_root g c swap

    cheap : cut_value net (joined g c) ≤ k
    cheap =
        omega (
          arith,
          uncross-cheap net g c width cuts k cut,
          grow net (g.up c.t) c.t (width c.t) (outside (under g c.t)) (uncross g c g.routers)
              (parent_cut net g c width cuts not_root) (parent_stays g c not_root ∙ swap-holds g c swap),
        )

-- ---- old cuts whose other end changes

-- A least cut S of r from t that lacks s is one of r from s, where r is in a least cut X of s from t: a set Y that
-- holds r and lacks s parts r from t, or has t, and then X without Y still parts s from t, and the complement of Y
-- without X still parts r from t.
pub cut-hangs_from_s : (net : Net) (s t r k width : ℕ) (X S : RouterSet) → IsLeastCut net s t X k
    → IsLeastCut net r t S width → X r ≡ true → S s ≡ false → IsLeastCut net r s S width
cut-hangs_from_s net s t r k width X S cut old r_in s_out = record {
  holds = old.holds;
  lacks = s_out;
  value = old.value;
  least = λ Y holds lacks. low Y holds lacks (cases_Bool (Y t));
}
  where
    low : (Y : RouterSet) → Y r ≡ true → Y s ≡ false → (Y t ≡ true) ⊎ (Y t ≡ false) → width ≤ cut_value net Y
    low Y holds lacks (inr t_out) = old.least Y holds t_out
    low Y holds lacks (inl t_in) =
        let first : k ≤ cut_value net (X ∖ Y)
        = cut.least (X ∖ Y) (rw (cut.holds, lacks) refl) (rw cut.lacks refl) in
        let turned : width ≤ cut_value net (outside (Y ∖ X))
        = old.least (outside (Y ∖ X)) (rw (holds, r_in) refl) (rw (t_in, cut.lacks) refl) in
        omega (arith, first, turned, cut_value-outside net (Y ∖ X), cut.value, differences net X Y)

-- A least cut S of t from q that holds s is one of s from q, where q is in a least cut X of s from t: a set Y that
-- holds s and lacks q parts t from q, or lacks t, and then what X and Y share still parts s from t, and the complement
-- of what they hold together still parts t from q.
pub cut-takes_over : (net : Net) (s t q k width : ℕ) (X S : RouterSet) → IsLeastCut net s t X k
    → IsLeastCut net t q S width → X q ≡ true → S s ≡ true → IsLeastCut net s q S width
cut-takes_over net s t q k width X S cut old q_in s_in = record {
  holds = s_in;
  lacks = old.lacks;
  value = old.value;
  least = λ Y holds lacks. low Y holds lacks (cases_Bool (Y t));
}
  where
    low : (Y : RouterSet) → Y s ≡ true → Y q ≡ false → (Y t ≡ true) ⊎ (Y t ≡ false) → width ≤ cut_value net Y
    low Y holds lacks (inl t_in) = old.least Y t_in lacks
    low Y holds lacks (inr t_out) =
        let first : k ≤ cut_value net (X ∩ Y)
        = cut.least (X ∩ Y) (rw (cut.holds, holds) refl) (rw cut.lacks refl) in
        let turned : width ≤ cut_value net (outside (X ∪ Y))
        = old.least (outside (X ∪ Y)) (rw (cut.lacks, t_out) refl) (rw q_in refl) in
        omega (arith, first, turned, cut_value-outside net (X ∪ Y), cut.value, meet_join net X Y)
