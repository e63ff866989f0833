-- A cut tree has a weakest edge, and no set that parts terminals costs less than what is below it.
use Rattle.std.proofs.Common.{◌≡◌, ◌≢◌, ◌⊎◌, inl, inr, ℕ, zero, suc, ◌<◌, ◌≤◌, true, false, not, ◌&&◌, sym, ◌∙◌}
use Rattle.std.proofs.Common.{arith, refl}
use Rattle.std.specs.Prelude.{◌==◌}
use Rattle.std.proofs.lemmas.Bool.{cases_Bool, cases_eq, false≢true, and_parts, ne_eqb, eq-eqb}
use Rattle.cut_model.specs.Net.{Net}
use Rattle.cut_model.specs.Cuts.{RouterSet, cut_value, IsLeastCut}
use Rattle.cut_model.specs.Terminals.{number_in, is_terminal, IsTerminal, terminal_count}
use Rattle.cut_model.proofs.Counting.{number_in-none, number_in-same}
use Rattle.cut_model.proofs.Terminals.{terminal-lt}
use Rattle.tree_state.specs.Tables.{Table, below}
use Rattle.tree_state.specs.Trees.{IsCutTree}
use Rattle.tree_state.specs.Paths.{IsWeakest, PartsTerminals, IsGlobalCut}
use Rattle.tree_state.proofs.CutTrees.{IsBoundedAt, path_bounds}
use Rattle.tree_state.proofs.Smallest.{smallest}

-- The terminals other than the root.
others : Net → ℕ → RouterSet
others net root c = is_terminal net c && not (c == root)

-- they are terminals
others-terminal : (net : Net) (root c : ℕ) → others net root c ≡ true → IsTerminal net c
unfolding others
others-terminal net root c inside = (and_parts (is_terminal net c) (not (c == root)) inside).0

-- and not the root
others-not_root : (net : Net) (root c : ℕ) → others net root c ≡ true → c ≢ root
unfolding others
others-not_root net root c inside e =
    false≢true (sym (rw (eq-eqb c root e) refl) ∙ (and_parts (is_terminal net c) (not (c == root)) inside).1)

-- each such terminal is one of them
others-from : (net : Net) (root c : ℕ) → IsTerminal net c → c ≢ root → others net root c ≡ true
unfolding others
others-from net root c terminal not_root = rw (terminal, ne_eqb c root not_root) refl

-- a set without a number below n counts none
number_in-empty : (X : RouterSet) (n : ℕ) → ((i : ℕ) → i < n → X i ≡ false) → number_in X n ≡ 0
number_in-empty X n none = number_in-same X (λ i. false) n none ∙ number_in-none (λ i. false) (λ i. refl) n

-- a set that holds r, and no other number up to r, holds none below r
number_in-first : (X : RouterSet) (r n : ℕ) → ((i : ℕ) → i < suc n → X i ≡ true → i ≡ r) → X n ≡ true
    → number_in X n ≡ 0
number_in-first X r n only inside = number_in-empty X n (λ i low. absent i low (cases_Bool (X i)))
  where
    absent : (i : ℕ) → i < n → (X i ≡ true) ⊎ (X i ≡ false) → X i ≡ false
    absent i low (inr out) = out
    absent i low (inl holds) = absurd (
        let here : i ≡ r = only i (omega arith) holds in
        let there : n ≡ r = only n (omega arith) inside in
        omega arith)

-- so a set without any but r counts at most one
number_in-one : (X : RouterSet) (r n : ℕ) → ((i : ℕ) → i < n → X i ≡ true → i ≡ r) → number_in X n ≤ 1
unfolding number_in
number_in-one X r zero only = omega arith
number_in-one X r (suc n) only = elim (cases_Bool (X n)) [
  | inr out ↦ rw out (omega (arith, number_in-one X r n (λ i low holds. only i (omega arith) holds)))
  | inl inside ↦ rw inside (omega (arith, number_in-first X r n only inside))
]

-- a tree of at least two terminals has a weakest edge, since not all of them are the root
pub weakest_edge : (net : Net) (root : ℕ) (up width : Table) → IsCutTree net root up width → 2 ≤ terminal_count net
    → (c : ℕ) × IsWeakest net root width c
weakest_edge net root up width cut_tree two = elim (smallest (others net root) width net.routers) [
  | inl found ↦ (
    found.0,
    record {
      terminal = others-terminal net root found.0 found.1.inside;
      not_root = others-not_root net root found.0 found.1.inside;
      least = λ e terminal not_root.
          found.1.least e (terminal-lt net e terminal) (others-from net root e terminal not_root);
      first = λ e terminal not_root same.
          found.1.first e (terminal-lt net e terminal) (others-from net root e terminal not_root) same;
    },
  )
  | inr none ↦ absurd (omega (
    arith,
    two,
    number_in-one (is_terminal net) root net.routers (λ i low terminal. only none i low terminal),
  ))
]
  where
    only : ((e : ℕ) → e < net.routers → others net root e ≡ false) → (i : ℕ) → i < net.routers → IsTerminal net i
        → i ≡ root
    only none i low terminal = elim (cases_eq i root) [
      | inl here ↦ here
      | inr other ↦ absurd (false≢true (sym (none i low) ∙ others-from net root i terminal other))
    ]

-- what is below the weakest edge parts its lower end from its upper one, and no set that parts terminals costs less,
-- since it costs at least the width of some edge
pub weakest_edge_cut : (net : Net) (root : ℕ) (up width : Table) → IsCutTree net root up width → (c : ℕ)
    → IsWeakest net root width c → IsGlobalCut net (below net.routers up c) (width c)
weakest_edge_cut net root up width cut_tree c weakest = record {
  parting = record {
    inner = c;
    inner_is = weakest.terminal;
    holds = cut.holds;
    outer = up c;
    outer_is = cut_tree.up_is c (terminal-lt net c weakest.terminal);
    lacks = cut.lacks;
  };
  value = cut.value;
  least = least;
}
  where
    cut : IsLeastCut net c (up c) (below net.routers up c) (width c)
    cut = cut_tree.cuts c weakest.terminal weakest.not_root

    least : (Y : RouterSet) → PartsTerminals net Y → width c ≤ cut_value net Y
    least Y parting =
        let found : (e : ℕ) × IsBoundedAt net root up width Y parting.inner parting.outer e
        = path_bounds net root up width cut_tree Y parting.inner parting.outer parting.inner_is parting.outer_is
        parting.holds parting.lacks in
        omega (arith, found.1.bound, weakest.least found.0 found.1.on_path.terminal found.1.not_root)
