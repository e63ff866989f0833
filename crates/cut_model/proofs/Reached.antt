-- What s reaches under a flow is a part of every set that the flow fills.
use Rattle.std.proofs.Common.{◌≡◌, inl, inr, ℕ, ◌<◌, Bool, true, false, cond, List, [], ◌∷◌, sym, ◌∙◌, ap, arith}
use Rattle.std.specs.Prelude.{ℤ, pos, ◌-ℤ◌, ◌<ℤ◌, neg_ℤ}
use Rattle.std.proofs.lemmas.Bool.{cases_Bool}
use Rattle.std.proofs.lemmas.Int.{ints}
use Rattle.cut_model.specs.declared.network.Link.{Link}
use Rattle.cut_model.specs.Net.{Net, IsInLimits}
use Rattle.cut_model.specs.Cuts.{RouterSet, differ, IsLeastSide}
use Rattle.cut_model.specs.Flow.{IsClosed, IsFlow, IsFull, Reaches}
use Rattle.cut_model.specs.Flow.Reaches.{here, on}
use Rattle.cut_model.proofs.Closed.{closed_full}
use Rattle.cut_model.proofs.Duality.{full_cut, full_if}

-- a link that leaves a full set could carry no more out of it, from its end a to its end b
full_there : (a b : Bool) (x : ℤ) (c : ℕ) → a ≡ true → b ≡ false
    → (cond a x (pos 0) -ℤ cond b x (pos 0)) ≡ pos (cond (differ a b) c 0) → x <ℤ pos c → ⊥
full_there a b x c ha hb full less =
    let all : (x -ℤ pos 0) ≡ pos c = rw (ha, hb) at full in omega (arith, ints, all, less)

-- and from its end b to its end a
full_back : (a b : Bool) (x : ℤ) (c : ℕ) → a ≡ false → b ≡ true
    → (cond a x (pos 0) -ℤ cond b x (pos 0)) ≡ pos (cond (differ a b) c 0) → neg_ℤ x <ℤ pos c → ⊥
full_back a b x c ha hb full less =
    let all : (pos 0 -ℤ x) ≡ pos c = rw (ha, hb) at full in omega (arith, ints, all, less)

-- no link could carry more out of a full set
pub full_closed : (links : List Link) (flow : List ℤ) (Y : RouterSet) → IsFull Y links flow → IsClosed Y links flow
full_closed [] flow Y full u v held leads = absurd leads
full_closed (link ∷ links) [] Y full u v held leads = absurd leads
full_closed (link ∷ links) (x ∷ flow) Y full u v held (inl (inl there)) =
    let a_held : Y link.a ≡ true = ap Y there.0 ∙ held in
    sym (ap Y there.1) ∙ elim (cases_Bool (Y link.b)) [
      | inl b_held ↦ b_held
      | inr b_out ↦ absurd (full_there (Y link.a) (Y link.b) x link.cap a_held b_out full.0 there.2)
    ]
full_closed (link ∷ links) (x ∷ flow) Y full u v held (inl (inr back)) =
    let b_held : Y link.b ≡ true = ap Y back.0 ∙ held in
    sym (ap Y back.1) ∙ elim (cases_Bool (Y link.a)) [
      | inl a_held ↦ a_held
      | inr a_out ↦ absurd (full_back (Y link.a) (Y link.b) x link.cap a_out b_held full.0 back.2)
    ]
full_closed (link ∷ links) (x ∷ flow) Y full u v held (inr leads) = full_closed links flow Y full.1 u v held leads

-- what s reaches is in every closed set that holds s
pub reached_held : (links : List Link) (flow : List ℤ) (s : ℕ) (Y : RouterSet) → IsClosed Y links flow → Y s ≡ true
    → (r : ℕ) → Reaches links flow s r → Y r ≡ true
reached_held links flow s Y closed held r here = held
reached_held links flow s Y closed held r (on {u} {v} way leads) =
    closed u v (reached_held links flow s Y closed held u way) leads

-- so a closed set of routers that s reaches is the least side
pub reached_least : (net : Net) → IsInLimits net → (s t : ℕ) (flow : List ℤ) (k : ℕ)
    → s < net.routers → IsFlow net s t flow k → (X : RouterSet) → X s ≡ true → X t ≡ false
    → IsClosed X net.links flow → ((r : ℕ) → r < net.routers → X r ≡ true → Reaches net.links flow s r)
    → IsLeastSide net s t X k
reached_least net limits s t flow k small is X holds lacks closed reached = record {
  cut = full_cut net limits s t flow k small is X holds lacks (closed_full net.links flow X is.within closed);
  part = λ Y cut r low held.
      let full = full_if net limits s t flow k small is Y cut.holds cut.lacks cut.value in
      reached_held net.links flow s Y (full_closed net.links flow Y full) cut.holds r (reached r low held);
}
