-- What a side that shows a set has of the set: it costs as much, and where the set is a least cut, so is the side.
use Rattle.std.proofs.Common.{ℕ, ◌<◌, Bool, List, ◌∙◌}
use Rattle.cut_model.specs.Net.{Net, IsInLimits}
use Rattle.cut_model.specs.Cuts.{RouterSet, set_of, IsLeastCut}
use Rattle.cut_model.proofs.Costs.{cut_value-same}
use Rattle.cut_model.proofs.Terminals.{terminal-lt}
use Rattle.tree_state.specs.Paths.{IsGlobalCut}
use Rattle.tree_state.specs.Shown.{ShowsSet}

-- a side that shows a least cut is one
pub shown_least_cut : (net : Net) → IsInLimits net → (X : RouterSet) (side : List Bool)
    → ShowsSet net.routers X side → (a b k : ℕ) → a < net.routers → b < net.routers → IsLeastCut net a b X k
    → IsLeastCut net a b (set_of side) k
shown_least_cut net limits X side shown a b k a_low b_low cut = record {
  holds = shown.shows a a_low ∙ cut.holds;
  lacks = shown.shows b b_low ∙ cut.lacks;
  value = cut_value-same net limits (set_of side) X shown.shows ∙ cut.value;
  least = cut.least;
}

-- a side that shows a cut of the whole network that no other undercuts is one
pub shown_global_cut : (net : Net) → IsInLimits net → (X : RouterSet) (side : List Bool)
    → ShowsSet net.routers X side → (k : ℕ) → IsGlobalCut net X k → IsGlobalCut net (set_of side) k
shown_global_cut net limits X side shown k cut = record {
  parting = record {
    inner = cut.parting.inner;
    inner_is = cut.parting.inner_is;
    holds = shown.shows cut.parting.inner (terminal-lt net cut.parting.inner cut.parting.inner_is)
        ∙ cut.parting.holds;
    outer = cut.parting.outer;
    outer_is = cut.parting.outer_is;
    lacks = shown.shows cut.parting.outer (terminal-lt net cut.parting.outer cut.parting.outer_is)
        ∙ cut.parting.lacks;
  };
  value = cut_value-same net limits (set_of side) X shown.shows ∙ cut.value;
  least = cut.least;
}
