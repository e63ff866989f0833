-- The routers of a legal history are routers of the network.
use Rattle.std.proofs.Common.{◌≡◌, ℕ, ◌<◌, List, [], ◌∷◌, ◌++◌, All, Some, subst}
use Rattle.std.proofs.lemmas.List.Elements.{All-cons, All-get_or, All-nil}
use Rattle.std.proofs.lemmas.Option.{get_or_from_slice_get, slice_get_within}
use Rattle.std.specs.Prelude.{slice_get}
use Rattle.cut_model.specs.Net.{Net, IsInLimits}
use Rattle.cut_model.specs.Terminals.{root_of}
use Rattle.cut_model.proofs.Terminals.{root-lt, terminal-lt}
use Rattle.tree_state.specs.History.{IsComplete, IsLegal, IsLegalAfter, tables}
use Rattle.tree_state.specs.declared.entry.Entry.{Entry}
use Rattle.tree_state.proofs.Histories.{legal_push}
use Rattle.tree_state.proofs.Ranges.{bounded}

-- Both routers of an entry are routers of the network.
pub record IsWithin (net : Net) (entry : Entry) : Type 0 where
  pub router : entry.router < net.routers
  pub neighbour : entry.neighbour < net.routers

-- So are those of the entries that follow a legal history.
entries_after : (net : Net) → root_of net < net.routers → (before rest : List Entry) → IsLegal net before
    → IsLegalAfter net before rest → All (IsWithin net) rest
unfolding IsLegalAfter
entries_after net room before [] legal after = All-nil (IsWithin net)
entries_after net room before (entry ∷ rest) legal after =
    let ups : (i : ℕ) → (tables (root_of net) before).up i < net.routers = (bounded net room before legal).ups in
    let here : IsWithin net entry = record {
      router = terminal-lt net entry.router after.0.terminal;
      neighbour = rw after.0.neighbour (ups entry.router);
    } in
    let next : IsLegal net (before ++ entry ∷ []) = legal_push net before entry legal after.0 in
    All-cons (IsWithin net) entry rest here (entries_after net room (before ++ entry ∷ []) rest next after.1)

-- The empty history is legal.
pub no_entry : (net : Net) → IsLegal net []
unfolding IsLegalAfter
no_entry net = tt

-- Each entry of a complete history has two routers of the network.
pub entry_within : (net : Net) → IsInLimits net → (history : List Entry) → IsComplete net history
    → (place : ℕ) (entry : Entry) → slice_get history place ≡ Some entry → IsWithin net entry
entry_within net limits history complete place entry is =
    let all = entries_after net (root-lt net limits) [] history (no_entry net) complete.legal in
    subst (IsWithin net) (get_or_from_slice_get history place entry entry is)
    (All-get_or (IsWithin net) history place entry (slice_get_within history place entry is) all)
