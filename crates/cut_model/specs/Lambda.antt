-- What least cuts of two routers cost, and how much a cut may cost.
use Rattle.std.specs.Prelude.{◌≡◌, ◌≢◌, ℕ, zero, suc, ◌≤◌, ◌==◌, ◌||◌, true, false, min, if◌then◌else◌}
use Rattle.cut_model.specs.declared.network.TheConstants.{MOST_VALUE}
use Rattle.cut_model.specs.Net.{Net, IsInLimits}
use Rattle.cut_model.specs.Cuts.{RouterSet, cut_value, IsLeastCut}

-- The set with a put in and b taken out.
abbrev pub parting : ℕ → ℕ → RouterSet → RouterSet
parting a b X router = if router == a then true else if router == b then false else X router

-- The smallest f of the sets that have the numbers of X and any numbers below n.
abbrev pub smallest : (RouterSet → ℕ) → ℕ → RouterSet → ℕ
smallest f zero X = f X
smallest f (suc n) X = min (smallest f n X) (smallest f n (λ router. (router == n) || X router))

-- The smallest cost of a set of routers of the network that holds a and lacks b.
unfoldable pub lambda : Net → ℕ → ℕ → ℕ
lambda net a b = smallest (λ X. cut_value net (parting a b X)) net.routers (λ router. false)

-- Two routers that differ have a least cut of the cost lambda, and no least cut of them costs anything else.
abbrev pub LambdaIsTheLeastValue : Type 0
LambdaIsTheLeastValue =
    (net : Net) → IsInLimits net → (a b : ℕ) → a ≢ b →
    ((X : RouterSet) × IsLeastCut net a b X (lambda net a b))
    × ((X : RouterSet) (k : ℕ) → IsLeastCut net a b X k → k ≡ lambda net a b)

-- It is the same both ways.
abbrev pub LambdaIsTheSameBothWays : Type 0
LambdaIsTheSameBothWays = (net : Net) → IsInLimits net → (a b : ℕ) → a ≢ b → lambda net a b ≡ lambda net b a

-- No set of routers costs more than all links that a network may have.
abbrev pub ValuesAreBounded : Type 0
ValuesAreBounded = (net : Net) → IsInLimits net → (X : RouterSet) → cut_value net X ≤ MOST_VALUE
