-- Laws of flows and cuts.
use Rattle.std.specs.Prelude.{◌≡◌, ℕ, ◌<◌, ◌≤◌, ℤ, List, true, false}
use Rattle.cut_model.specs.Net.{Net, IsInLimits}
use Rattle.cut_model.specs.Cuts.{RouterSet, cut_value, IsLeastCut, IsLeastSide}
use Rattle.cut_model.specs.Flow.{IsClosed, IsFlow, IsFull, Reaches}

-- A flow of k from s to t is at most the cost of every set that holds s and lacks t.
abbrev pub FlowIsAtMost : Type 0
FlowIsAtMost =
    (net : Net) → IsInLimits net → (s t : ℕ) (flow : List ℤ) (k : ℕ) →
    s < net.routers → IsFlow net s t flow k → (Y : RouterSet) → Y s ≡ true → Y t ≡ false → k ≤ cut_value net Y

-- A set that holds s and lacks t, and that a flow of k from s to t fills, is a least cut of cost k.
abbrev pub FullSideIsLeast : Type 0
FullSideIsLeast =
    (net : Net) → IsInLimits net → (s t : ℕ) (flow : List ℤ) (k : ℕ) →
    s < net.routers → IsFlow net s t flow k → (X : RouterSet) → X s ≡ true → X t ≡ false →
    IsFull X net.links flow → IsLeastCut net s t X k

-- A set that holds s and lacks t, that no link could carry more out of under a flow of k from s to t, and whose
-- routers s reaches over links that could carry more, is the least side, and its cost is k.
abbrev pub ReachedSideIsLeast : Type 0
ReachedSideIsLeast =
    (net : Net) → IsInLimits net → (s t : ℕ) (flow : List ℤ) (k : ℕ) →
    s < net.routers → IsFlow net s t flow k → (X : RouterSet) → X s ≡ true → X t ≡ false →
    IsClosed X net.links flow → ((r : ℕ) → r < net.routers → X r ≡ true → Reaches net.links flow s r) →
    IsLeastSide net s t X k
