-- How many entries a complete history has.
use Rattle.std.proofs.Common.{◌≡◌, ◌≢◌, ◌⊎◌, inl, inr, ℕ, suc, Bool, true, List, [], ◌∷◌, ◌++◌, length}
use Rattle.std.proofs.Common.{sym, ap, ◌∙◌, arith}
use Rattle.std.proofs.lemmas.Bool.{cases_Bool, cases_eq, false≢true}
use Rattle.cut_model.specs.Net.{Net, IsInLimits}
use Rattle.cut_model.specs.Terminals.{is_terminal, IsTerminal, terminal_count, root_of}
use Rattle.cut_model.proofs.Counting.{with_number, with_number-same, with_number-other, number_in-new, number_in-same}
use Rattle.cut_model.proofs.Terminals.{root-lt, root_terminal}
use Rattle.tree_state.specs.declared.entry.Entry.{Entry}
use Rattle.tree_state.specs.History.{entered, MayFollow, IsLegal, IsComplete}
use Rattle.tree_state.proofs.Histories.{entered-push, by_entries}
use Rattle.tree_state.proofs.Ranges.{IsBounded, bounded}

-- nobody is entered in the empty history
none_entered : (net : Net) (r : ℕ) → entered [] r ≡ true → IsTerminal net r
unfolding entered
none_entered net r h = absurd (false≢true h)

-- one more entry enters a terminal
one_more : (net : Net) (before : List Entry) (entry : Entry) → ((r : ℕ) → entered before r ≡ true → IsTerminal net r)
    → MayFollow net before entry → (r : ℕ) → entered (before ++ entry ∷ []) r ≡ true → IsTerminal net r
one_more net before entry old may r h = elim (cases_eq r entry.router) [
  | inl here ↦ rw here may.terminal
  | inr other ↦ old r (sym (with_number-other entry.router (entered before) r other)
      ∙ sym (entered-push before entry r) ∙ h)
]

-- truth values that imply each other are one
same_true : (a b : Bool) → (a ≡ true → b ≡ true) → (b ≡ true → a ≡ true) → a ≡ b
same_true a b there back = grind (arith, cases_Bool a, cases_Bool b)

-- whoever is entered in a legal history is a terminal
pub entered_terminal : (net : Net) (history : List Entry) → IsLegal net history → (r : ℕ)
    → entered history r ≡ true → IsTerminal net r
entered_terminal net history legal = by_entries net (λ h. (r : ℕ) → entered h r ≡ true → IsTerminal net r)
    (none_entered net) (one_more net) history legal

-- a complete history has an entry for each terminal but the root
pub length-complete : (net : Net) → IsInLimits net → (history : List Entry) → IsComplete net history
    → suc (length history) ≡ terminal_count net
length-complete net limits history complete = sym (
    number_in-same (is_terminal net) (with_number (root_of net) (entered history)) net.routers
    (λ r low. same r (cases_eq r (root_of net)))
    ∙ number_in-new (entered history) (root_of net) net.routers b.root_free (root-lt net limits)
    ∙ ap (λ (k : ℕ). suc k) b.count)
  where
    b : IsBounded net history
    b = bounded net (root-lt net limits) history complete.legal

    same : (r : ℕ) → (r ≡ root_of net) ⊎ (r ≢ root_of net)
        → is_terminal net r ≡ with_number (root_of net) (entered history) r
    same r (inl here) = rw here (root_terminal net limits ∙ sym (with_number-same (root_of net) (entered history)))
    same r (inr other) = rw (with_number-other (root_of net) (entered history) r other)
        (same_true (is_terminal net r) (entered history r) (λ terminal. complete.all r terminal other)
        (entered_terminal net history complete.legal r))
