-- What the least cuts of pairs of routers cost, by a global cut and by least cuts in hand; one summary.
use Rattle.std.proofs.Common.{◌≡◌, ◌≢◌, ℕ, ◌+◌, ◌-◌, ◌<◌, ◌≤◌, sym, ap, ◌∙◌, arith}
use Rattle.std.proofs.lemmas.List.FromFn.{sum_by-map-range_with_len_more}
use Rattle.cut_model.specs.Cuts.{RouterSet, IsLeastCut}
use Rattle.cut_model.specs.Lambda.{lambda}
use Rattle.cut_model.specs.Net.{Net, IsInLimits}
use Rattle.cut_model.specs.declared.network.TheConstants.{MOST_VALUE}
use Rattle.cut_model.proofs.Costs.{cut_value-most}
use Rattle.cut_model.proofs.Lambdas.{lambda_value}
use Rattle.cut_model.proofs.Terminals.{all_terminals, terminal-lt}
use Rattle.tree_state.specs.Paths.{IsGlobalCut, PartsTerminals}
use Rattle.made_networks.specs.Summaries.{ArePair, IsLeastOfPairs, IsSummaryOf, sum_from_first}
use Rattle.made_networks.specs.declared.summary.Summary.{Summary}

-- ---- two routers

-- a least cut of two routers costs what all of them cost
pub least_cut-lambda : (net : Net) → IsInLimits net → (a b : ℕ) → a ≢ b → (X : RouterSet) (k : ℕ)
    → IsLeastCut net a b X k → k ≡ lambda net a b
least_cut-lambda net limits a b apart X k cut = (lambda_value net limits a b apart).1 X k cut

-- and no more than a cut may cost
pub least_cut-most : (net : Net) → IsInLimits net → (a b : ℕ) (X : RouterSet) (k : ℕ) → IsLeastCut net a b X k
    → k ≤ MOST_VALUE
least_cut-most net limits a b X k cut = omega (arith, cut.value, cut_value-most net limits X)

-- ---- all pairs

-- a set that parts two routers of the network parts terminals
parts_pair : (net : Net) (a b : ℕ) → ArePair net a b → (X : RouterSet) (k : ℕ) → IsLeastCut net a b X k
    → PartsTerminals net X
parts_pair net a b pair X k cut = record {
  inner = a;
  inner_is = all_terminals net a pair.first;
  holds = cut.holds;
  outer = b;
  outer_is = all_terminals net b pair.second;
  lacks = cut.lacks;
}

-- the two terminals that a global cut parts are a pair, and it is a least cut of the two
global_pair : (net : Net) (X : RouterSet) (width : ℕ) → (cut : IsGlobalCut net X width)
    → ArePair net cut.parting.inner cut.parting.outer
global_pair net X width cut = record {
  first = terminal-lt net cut.parting.inner cut.parting.inner_is;
  second = terminal-lt net cut.parting.outer cut.parting.outer_is;
  differ = λ same. let lost = ap X same in cc (cut.parting.holds, cut.parting.lacks, lost);
}

global_least : (net : Net) (X : RouterSet) (width : ℕ) → (cut : IsGlobalCut net X width)
    → IsLeastCut net cut.parting.inner cut.parting.outer X width
global_least net X width cut = record {
  holds = cut.parting.holds;
  lacks = cut.parting.lacks;
  value = cut.value;
  least = λ Y holds lacks. cut.least Y (record {
    inner = cut.parting.inner;
    inner_is = cut.parting.inner_is;
    holds = holds;
    outer = cut.parting.outer;
    outer_is = cut.parting.outer_is;
    lacks = lacks;
  });
}

-- so what a global cut costs is the least of all pairs
pub global_cut-pairs : (net : Net) → IsInLimits net → (X : RouterSet) (width : ℕ) → IsGlobalCut net X width
    → IsLeastOfPairs net width
global_cut-pairs net limits X width cut =
    let pair = global_pair net X width cut in record {
      one = cut.parting.inner;
      other = cut.parting.outer;
      pair = pair;
      value = sym (least_cut-lambda net limits cut.parting.inner cut.parting.outer pair.differ X width
          (global_least net X width cut));
      least = λ a b apart.
          let found = (lambda_value net limits a b apart.differ).0 in
          omega (arith, cut.least found.0 (parts_pair net a b apart found.0 (lambda net a b) found.1), found.1.value);
    }

-- ---- from router 0

-- the sum up to a router is the sum up to the one before it and what the least cuts of 0 and the router cost
pub sum_from_first-more : (net : Net) (router : ℕ) → 0 < router
    → sum_from_first net (router + 1 - 1) ≡ sum_from_first net (router - 1) + lambda net 0 router
unfolding sum_from_first
sum_from_first-more net router some =
    let on : router + 1 - 1 ≡ router - 1 + 1 = omega arith in
    ap (sum_from_first net) on
    ∙ sum_by-map-range_with_len_more (λ (x : ℕ). x) (lambda net 0) 1 (router - 1) router (omega arith)

-- ---- one summary

-- two numbers that are the least of all pairs are the same
least-once : (net : Net) (v w : ℕ) → IsLeastOfPairs net v → IsLeastOfPairs net w → v ≡ w
least-once net v w one other = omega (
  arith,
  one.least other.one other.other other.pair,
  other.value,
  other.least one.one one.other one.pair,
  one.value,
)

-- two summaries of a network are the same
pub summary_once : (net : Net) (one other : Summary) → IsSummaryOf net one → IsSummaryOf net other → one ≡ other
summary_once net one other is also =
    let least = least-once net one.least other.least is.least_is also.least_is in
    λ i. record {
      routers = (is.routers_are ∙ sym also.routers_are) i;
      links = (is.links_are ∙ sym also.links_are) i;
      least = least i;
      sum = (is.sum_is ∙ sym also.sum_is) i;
    }
