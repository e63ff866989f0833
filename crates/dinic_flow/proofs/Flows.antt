-- Flows: how large they may be, and where they begin.
use Rattle.std.proofs.Common.{◌≡◌, ◌≢◌, ℕ, ◌<◌, ◌≤◌, Bool, true, false, cond, List, [], ◌∷◌}
use Rattle.std.proofs.Common.{length, replicate, sym, ◌∙◌, ap, arith, refl}
use Rattle.std.specs.Prelude.{ℤ, pos, ◌==◌, ◌+ℤ◌, ◌-ℤ◌}
use Rattle.std.proofs.lemmas.Bool.{eq-eqb, ne_eqb}
use Rattle.cut_model.specs.declared.network.Link.{Link}
use Rattle.cut_model.specs.Net.{Net, IsInLimits}
use Rattle.cut_model.specs.Cuts.{RouterSet, cut_value}
use Rattle.cut_model.specs.Flow.{out, IsWithinCaps, IsFlow}
use Rattle.cut_model.proofs.Costs.{cut_value-most}
use Rattle.cut_model.proofs.Duality.{flow_le}
use Rattle.cut_model.specs.declared.network.TheConstants.{MOST_VALUE}

-- The value of a flow is at most what all links together can carry.
pub flow-small : (net : Net) (s t : ℕ) (flow : List ℤ) (k : ℕ) → IsInLimits net →
    s < net.routers → IsFlow net s t flow k → k ≤ MOST_VALUE
flow-small net s t flow k limits small is =
    let alone : RouterSet = λ r. r == s in
    let below : k ≤ cut_value net alone =
    flow_le net limits s t flow k small is alone
    (eq-eqb s s refl) (ne_eqb t s (λ e. is.differ_ends (sym e))) in
    omega (arith, below, cut_value-most net limits alone)

-- No flow sends nothing.
nothing-sent : (from to : Bool) → ((cond from (pos 0) (pos 0) -ℤ cond to (pos 0) (pos 0)) +ℤ pos 0) ≡ pos 0
nothing-sent true true = refl
nothing-sent true false = refl
nothing-sent false true = refl
nothing-sent false false = refl

-- Where nothing flows, no router sends anything out.
out-still : (r : ℕ) (links : List Link) → out r links (replicate (length links) (pos 0)) ≡ pos 0
out-still r [] = refl
out-still r (l ∷ links) = rw (out-still r links) (nothing-sent (l.a == r) (l.b == r))

-- Where nothing flows, there is a flow of 0.
pub flow-none : (net : Net) (s t : ℕ) (flow : List ℤ) → s ≢ t → IsWithinCaps net.links flow →
    flow ≡ replicate (length net.links) (pos 0) → IsFlow net s t flow 0
flow-none net s t flow apart within still = record {
  differ_ends = apart;
  within = within;
  kept = λ r small not_s not_t. ap (out r net.links) still ∙ out-still r net.links;
  sent = ap (out s net.links) still ∙ out-still s net.links;
}
