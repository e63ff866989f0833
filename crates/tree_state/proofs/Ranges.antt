-- Within which bounds the tables and the lengths of legal histories lie.
use Rattle.std.proofs.Common.{◌≡◌, ℕ, suc, ◌<◌, ◌≤◌, false, List, [], ◌∷◌, ◌++◌, length}
use Rattle.std.proofs.Common.{sym, ap, ◌∙◌, refl, subst, arith}
use Rattle.std.proofs.lemmas.Bool.{cases_Bool}
use Rattle.std.proofs.lemmas.List.{length_push}
use Rattle.std.specs.Prelude.{◌==◌}
use Rattle.cut_model.specs.declared.network.TheConstants.{MOST_VALUE}
use Rattle.cut_model.specs.Net.{Net, IsInLimits}
use Rattle.cut_model.specs.Cuts.{set_of}
use Rattle.cut_model.specs.Terminals.{number_in, root_of}
use Rattle.cut_model.proofs.Counting.{with_number, with_number-other, number_in-none, number_in-lt, number_in-new}
use Rattle.cut_model.proofs.Counting.{number_in-same}
use Rattle.cut_model.proofs.Costs.{cut_value-most}
use Rattle.cut_model.proofs.Terminals.{terminal-lt}
use Rattle.tree_state.specs.declared.entry.Entry.{Entry}
use Rattle.tree_state.specs.Tables.{Tables, swaps, up_after, width_after}
use Rattle.tree_state.specs.History.{commit, tables, entered, MayFollow, IsLegal}
use Rattle.tree_state.proofs.Histories.{tables-push, entered-push, by_entries}

-- What lies within bounds: each router hangs from one of the network, the root isn't entered, and there
-- are as many entered routers as entries.
pub record IsBounded (net : Net) (history : List Entry) : Type 0 where
  pub ups : (i : ℕ) → (tables (root_of net) history).up i < net.routers
  pub root_free : entered history (root_of net) ≡ false
  pub count : number_in (entered history) net.routers ≡ length history

-- a commit hangs routers only from its router, from its neighbour and from the one above that
pub up_after-lt : (n root : ℕ) (T : Tables) (entry : Entry) (i : ℕ) → entry.router < n → entry.neighbour < n
    → ((j : ℕ) → T.up j < n) → (commit root T entry).up i < n
unfolding up_after
up_after-lt n root T entry i router_in neighbour_in ups =
    let here : T.up i < n = ups i in
    let above : T.up entry.neighbour < n = ups entry.neighbour in
    grind (
      arith,
      cases_Bool (i == entry.router),
      cases_Bool (i == entry.neighbour),
      cases_Bool (swaps root T.up entry.neighbour (set_of entry.side)),
      cases_Bool (set_of entry.side i),
      cases_Bool (T.up i == entry.neighbour),
    )

-- the empty history is bounded
bounded_start : (net : Net) → root_of net < net.routers → IsBounded net []
unfolding tables entered
bounded_start net room = record {
  ups = λ i. room;
  root_free = refl;
  count = number_in-none (λ i. false) (λ i. refl) net.routers;
}

-- an entry keeps a history bounded
bounded_push : (net : Net) (before : List Entry) (entry : Entry) → IsBounded net before → MayFollow net before entry
    → IsBounded net (before ++ entry ∷ [])
bounded_push net before entry bounded may = record {
  ups = λ i. subst (λ (T : Tables). T.up i < net.routers) (sym (tables-push (root_of net) before entry))
      (up_after-lt net.routers (root_of net) (tables (root_of net) before) entry i router_in neighbour_in bounded.ups);
  root_free = entered-push before entry (root_of net)
      ∙ with_number-other entry.router (entered before) (root_of net) (λ e. may.not_root (sym e)) ∙ bounded.root_free;
  count = number_in-same (entered (before ++ entry ∷ [])) (with_number entry.router (entered before)) net.routers
      (λ i low. entered-push before entry i)
      ∙ number_in-new (entered before) entry.router net.routers may.fresh router_in
      ∙ ap (λ (k : ℕ). suc k) bounded.count ∙ omega (arith, length_push before entry);
}
  where
    router_in : entry.router < net.routers
    router_in = terminal-lt net entry.router may.terminal

    neighbour_in : entry.neighbour < net.routers
    neighbour_in = rw may.neighbour (bounded.ups entry.router)

-- each legal history is bounded
pub bounded : (net : Net) → root_of net < net.routers → (history : List Entry) → IsLegal net history
    → IsBounded net history
bounded net room = by_entries net (IsBounded net) (bounded_start net room) (bounded_push net)

-- there are fewer entries than routers
pub length-lt : (net : Net) → root_of net < net.routers → (history : List Entry) → IsLegal net history
    → length history < net.routers
length-lt net room history legal =
    let b : IsBounded net history = bounded net room history legal in
    omega (arith, b.count, number_in-lt (entered history) (root_of net) net.routers b.root_free room)

-- and one fewer still where an entry may follow
pub length-lt-more : (net : Net) → root_of net < net.routers → (history : List Entry) (entry : Entry)
    → IsLegal net history → MayFollow net history entry → suc (length history) < net.routers
length-lt-more net room history entry legal may =
    let b : IsBounded net (history ++ entry ∷ []) =
    bounded_push net history entry (bounded net room history legal) may in
    omega (
      arith,
      b.count,
      length_push history entry,
      number_in-lt (entered (history ++ entry ∷ [])) (root_of net) net.routers b.root_free room,
    )

-- ---- widths

-- a commit writes its value and a width that was there
width_after-le : (most root : ℕ) (T : Tables) (entry : Entry) (i : ℕ) → ((j : ℕ) → T.width j ≤ most)
    → entry.value ≤ most → (commit root T entry).width i ≤ most
unfolding width_after
width_after-le most root T entry i widths value =
    let here : T.width i ≤ most = widths i in
    let above : T.width entry.neighbour ≤ most = widths entry.neighbour in
    grind (
      arith,
      cases_Bool (i == entry.router),
      cases_Bool (i == entry.neighbour),
      cases_Bool (swaps root T.up entry.neighbour (set_of entry.side)),
    )

-- No width is more than a cut may cost.
abbrev HasWidthsAtMost : Net → List Entry → Type 0
HasWidthsAtMost net history = (i : ℕ) → (tables (root_of net) history).width i ≤ MOST_VALUE

-- at first all are 0
widths_start : (net : Net) → HasWidthsAtMost net []
unfolding tables
widths_start net i = omega arith

-- and each entry writes what its cut costs
widths_push : (net : Net) → IsInLimits net → (before : List Entry) (entry : Entry) → HasWidthsAtMost net before
    → MayFollow net before entry → HasWidthsAtMost net (before ++ entry ∷ [])
widths_push net limits before entry widths may i =
    subst (λ (T : Tables). T.width i ≤ MOST_VALUE) (sym (tables-push (root_of net) before entry))
    (width_after-le MOST_VALUE (root_of net) (tables (root_of net) before) entry i widths value)
  where
    value : entry.value ≤ MOST_VALUE
    value = rw (← may.least.value) (cut_value-most net limits (set_of entry.side))

-- so no width of a legal history is more than a cut may cost
pub widths-most : (net : Net) → IsInLimits net → (history : List Entry) → IsLegal net history
    → HasWidthsAtMost net history
widths-most net limits = by_entries net (HasWidthsAtMost net) (widths_start net) (widths_push net limits)
