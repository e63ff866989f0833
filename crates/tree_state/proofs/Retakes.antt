-- How often the neighbours of routers move, and that no router has more retakes than moves.
use Rattle.std.proofs.Common.{◌≡◌, ◌≢◌, inl, inr, ℕ, ◌+◌, ◌<◌, ◌≤◌, false, cond, List, [], ◌∷◌, ◌++◌}
use Rattle.std.proofs.Common.{length, replicate, set, sym, ◌∙◌, refl, arith, get_or-set_same, get_or-set_other}
use Rattle.std.proofs.Math.ListN.{length-set}
use Rattle.std.proofs.lemmas.Bool.{cases_Bool, cases_eq, ne_eqb}
use Rattle.std.proofs.lemmas.List.{length-replicate, get_or-replicate}
use Rattle.std.specs.Prelude.{◌==◌, fold, slice_index}
use Rattle.cut_model.specs.declared.network.TheConstants.{MOST_ROUTERS}
use Rattle.cut_model.specs.Net.{Net, IsInLimits}
use Rattle.cut_model.specs.Terminals.{root_of}
use Rattle.cut_model.proofs.Counting.{with_number}
use Rattle.cut_model.proofs.Terminals.{root-lt}
use Rattle.tree_state.specs.declared.entry.Entry.{Entry}
use Rattle.tree_state.specs.Tables.{Tables, start}
use Rattle.tree_state.specs.History.{commit, tables, entered, IsLegal}
use Rattle.tree_state.specs.Moves.{moves_from, moves}
use Rattle.tree_state.specs.Growing.{CountsRetakes}
use Rattle.tree_state.proofs.Histories.{entered-push}
use Rattle.tree_state.proofs.Ranges.{length-lt}

-- ---- moves

-- one more entry, from any tables on: a router that isn't entered moves once more where what is above it changes
moves_from-push : (root : ℕ) (T : Tables) (history : List Entry) (entry : Entry) (r : ℕ)
    → moves_from root T (history ++ entry ∷ []) r
    ≡ moves_from root T history r + cond (entered (history ++ entry ∷ []) r) 0
    (cond ((fold (commit root) T (history ++ entry ∷ [])).up r == (fold (commit root) T history).up r) 0 1)
unfolding moves_from entered
moves_from-push root T [] entry r =
    grind (arith, cases_Bool (r == entry.router), cases_Bool ((commit root T entry).up r == T.up r))
moves_from-push root T (first ∷ history) entry r = elim (cases_Bool (r == first.router)) [
  | inl own ↦ rw own refl
  | inr other ↦ rw other (omega (arith, moves_from-push root (commit root T first) history entry r))
]

-- and so from the start
pub moves-push : (root : ℕ) (history : List Entry) (entry : Entry) (r : ℕ)
    → moves root (history ++ entry ∷ []) r
    ≡ moves root history r + cond (entered (history ++ entry ∷ []) r) 0
    (cond ((tables root (history ++ entry ∷ [])).up r == (tables root history).up r) 0 1)
unfolding tables
moves-push root history entry r = moves_from-push root (start root) history entry r

-- a router moves at most once with each entry, from any tables on
moves_from-le : (root : ℕ) (T : Tables) (history : List Entry) (r : ℕ) → moves_from root T history r ≤ length history
unfolding moves_from
moves_from-le root T [] r = omega arith
moves_from-le root T (first ∷ history) r =
    let rest : moves_from root (commit root T first) history r ≤ length history =
    moves_from-le root (commit root T first) history r in
    grind (arith, cases_Bool (r == first.router), cases_Bool ((commit root T first).up r == T.up r))

-- and so from the start
pub moves-le : (root : ℕ) (history : List Entry) (r : ℕ) → moves root history r ≤ length history
moves-le root history r = moves_from-le root (start root) history r

-- no entry takes a move back
moves-more : (root : ℕ) (history : List Entry) (entry : Entry) (r : ℕ)
    → moves root history r ≤ moves root (history ++ entry ∷ []) r
moves-more root history entry r = omega (arith, moves-push root history entry r)

-- a router that isn't entered moves where what is above it changes
moves-changed : (root : ℕ) (history : List Entry) (entry : Entry) (r : ℕ)
    → entered (history ++ entry ∷ []) r ≡ false
    → (tables root (history ++ entry ∷ [])).up r ≢ (tables root history).up r
    → moves root (history ++ entry ∷ []) r ≡ moves root history r + 1
moves-changed root history entry r fresh changed =
    moves-push root history entry r
    ∙ rw (fresh, ne_eqb ((tables root (history ++ entry ∷ [])).up r) ((tables root history).up r) changed) refl

-- who isn't entered wasn't entered before
fresh_before : (history : List Entry) (entry : Entry) (r : ℕ) → entered (history ++ entry ∷ []) r ≡ false
    → entered history r ≡ false
unfolding with_number
fresh_before history entry r fresh =
    let now : with_number entry.router (entered history) r ≡ false = sym (entered-push history entry r) ∙ fresh in
    grind (arith, cases_Bool (entered history r), cases_Bool (r == entry.router))

-- ---- retakes

-- at first there are none, and the root was read for each router
pub retakes_start : (net : Net)
    → CountsRetakes net [] (replicate net.routers (root_of net)) (replicate net.routers 0)
unfolding tables
retakes_start net = record {
  reads = length-replicate net.routers (root_of net);
  counts = length-replicate net.routers 0;
  most = λ s low. rw (get_or-replicate {A = ℕ} net.routers s 0 0 low) (omega arith);
  moved = λ s low fresh moved. absurd (moved (sym (get_or-replicate net.routers s (root_of net) 0 low)));
}

-- an entry keeps all retakes
pub retakes_push : (net : Net) (history : List Entry) (entry : Entry) (last_read retakes : List ℕ)
    → CountsRetakes net history last_read retakes → CountsRetakes net (history ++ entry ∷ []) last_read retakes
retakes_push net history entry last_read retakes old = record {
  reads = old.reads;
  counts = old.counts;
  most = λ s low. omega (arith, old.most s low, moves-more (root_of net) history entry s);
  moved = λ s low fresh moved. elim (cases_eq
      ((tables (root_of net) (history ++ entry ∷ [])).up s) ((tables (root_of net) history).up s)) [
        | inl same ↦ omega (
          arith,
          old.moved s low (fresh_before history entry s fresh) (λ read. moved (same ∙ read)),
          moves-more (root_of net) history entry s,
        )
        | inr changed ↦ omega (arith, old.most s low, moves-changed (root_of net) history entry s fresh changed)
      ];
}

-- what is above a router was read for it
pub retakes_read : (net : Net) (history : List Entry) (last_read retakes : List ℕ) (s : ℕ) → s < net.routers
    → CountsRetakes net history last_read retakes
    → CountsRetakes net history (set last_read s ((tables (root_of net) history).up s)) retakes
retakes_read net history last_read retakes s s_in old = record {
  reads = length-set last_read s ((tables (root_of net) history).up s) ∙ old.reads;
  counts = old.counts;
  most = old.most;
  moved = λ r low fresh moved. elim (cases_eq r s) [
    | inl here ↦ absurd (moved (rw here (sym (get_or-set_same last_read s ((tables (root_of net) history).up s) 0
        (omega (arith, old.reads))))))
    | inr other ↦ old.moved r low fresh (λ read. moved (read
        ∙ sym (get_or-set_other last_read s r ((tables (root_of net) history).up s) 0 other)))
  ];
}

-- a router whose neighbour moved since it was read has one more retake
pub retakes_more : (net : Net) (history : List Entry) (last_read retakes : List ℕ) (s : ℕ) → s < net.routers
    → entered history s ≡ false → (tables (root_of net) history).up s ≢ slice_index last_read s
    → CountsRetakes net history last_read retakes
    → CountsRetakes net history (set last_read s ((tables (root_of net) history).up s))
    (set retakes s (slice_index retakes s + 1))
retakes_more net history last_read retakes s s_in fresh moved old = record {
  reads = read.reads;
  counts = length-set retakes s (slice_index retakes s + 1) ∙ old.counts;
  most = λ r low. elim (cases_eq r s) [
    | inl here ↦ rw (here, get_or-set_same retakes s (slice_index retakes s + 1) 0 (omega (arith, old.counts)))
        (old.moved s s_in fresh moved)
    | inr other ↦ rw (get_or-set_other retakes s r (slice_index retakes s + 1) 0 other) (old.most r low)
  ];
  moved = λ r low fresh_r moved_r. elim (cases_eq r s) [
    | inl here ↦ absurd (moved_r (rw here (sym (get_or-set_same last_read s
        ((tables (root_of net) history).up s) 0 (omega (arith, old.reads))))))
    | inr other ↦ rw (get_or-set_other retakes s r (slice_index retakes s + 1) 0 other)
        (read.moved r low fresh_r moved_r)
  ];
}
  where
    read : CountsRetakes net history (set last_read s ((tables (root_of net) history).up s)) retakes
    read = retakes_read net history last_read retakes s s_in old

-- one more retake fits, since there are fewer entries than routers
pub retakes-lt : (net : Net) → IsInLimits net → (history : List Entry) → IsLegal net history
    → (last_read retakes : List ℕ) → CountsRetakes net history last_read retakes → (s : ℕ) → s < net.routers
    → slice_index retakes s < MOST_ROUTERS
retakes-lt net limits history legal last_read retakes counted s s_in = omega (
  arith,
  counted.most s s_in,
  moves-le (root_of net) history s,
  length-lt net (root-lt net limits) history legal,
  limits.few_routers,
)
