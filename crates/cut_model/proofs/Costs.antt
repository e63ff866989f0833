-- What sets cost: as much as the routers of the network that they hold, and no more than all links together.
use Rattle.std.proofs.Common.{◌≡◌, ℕ, ◌*◌, ◌<◌, ◌≤◌, List, [], ◌∷◌, inl, inr, length, sym, ◌∙◌, refl, arith}
use Rattle.std.proofs.lemmas.Bool.{cases_Bool}
use Rattle.std.proofs.lemmas.List.Sums.{sum_by-cons, sum_by-le}
use Rattle.std.specs.List.{AllByRecursion}
use Rattle.std.specs.Prelude.{sum_by}
use Rattle.cut_model.proofs.Duality.{HasEndsBelow, ends_within}
use Rattle.cut_model.specs.Cuts.{RouterSet, differ, across, cut_value}
use Rattle.cut_model.specs.Net.{Net, IsLink, IsInLimits}
use Rattle.cut_model.specs.declared.network.Link.{Link}
use Rattle.cut_model.specs.declared.network.TheConstants.{MOST_CAPACITY, MOST_VALUE}

-- two sets with the same routers below n lie alike across links among these
sum_across-same : (n : ℕ) (X Y : RouterSet) → ((r : ℕ) → r < n → X r ≡ Y r) → (links : List Link)
    → AllByRecursion (HasEndsBelow n) links → sum_by (across X) links ≡ sum_by (across Y) links
sum_across-same n X Y same [] within = refl
sum_across-same n X Y same (link ∷ links) within =
    sum_by-cons (across X) link links
    ∙ rw (same link.a within.0.0, same link.b within.0.1, sum_across-same n X Y same links within.1)
    (sym (sum_by-cons (across Y) link links))

-- so sets with the same routers of a network cost the same
pub cut_value-same : (net : Net) → IsInLimits net → (X Y : RouterSet)
    → ((r : ℕ) → r < net.routers → X r ≡ Y r) → cut_value net X ≡ cut_value net Y
unfolding cut_value
cut_value-same net limits X Y same =
    sum_across-same net.routers X Y same net.links (ends_within net limits)

-- a link adds at most the greatest capacity to the cost of a set
across-le : (X : RouterSet) (routers : ℕ) (link : Link) → IsLink routers link → across X link ≤ MOST_CAPACITY
across-le X routers link is = elim (cases_Bool (differ (X link.a) (X link.b))) [
  | inl e ↦ rw e is.cap
  | inr e ↦ rw e (omega arith)
]

-- a set costs at most the greatest capacity for each link
cut_value-le : (net : Net) (X : RouterSet) → IsInLimits net → cut_value net X ≤ length net.links * MOST_CAPACITY
unfolding cut_value
cut_value-le net X limits = sum_by-le (across X) MOST_CAPACITY net.links
    (λ k d short. across-le X net.routers _ (limits.within k d short))

-- so no set costs more than all links that a network may have
pub cut_value-most : (net : Net) → IsInLimits net → (X : RouterSet) → cut_value net X ≤ MOST_VALUE
cut_value-most net limits X = omega (arith, cut_value-le net X limits, limits.few_links)
