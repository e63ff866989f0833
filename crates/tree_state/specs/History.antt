-- Histories of commits: their tables, and which of them are legal and complete.
use Rattle.std.specs.Prelude.{◌≡◌, ◌≢◌, ℕ, true, false, ◌==◌, List, [], ◌∷◌, ◌++◌, fold, length}
use Rattle.std.specs.List.{list_any}
use Rattle.cut_model.specs.Net.{Net}
use Rattle.cut_model.specs.Cuts.{RouterSet, set_of, IsLeastCut}
use Rattle.cut_model.specs.Held.{CutView}
use Rattle.cut_model.specs.Terminals.{IsTerminal, root_of}
use Rattle.tree_state.specs.declared.entry.Entry.{Entry}
use Rattle.tree_state.specs.Tables.{Tables, start, up_after, width_after}

-- The entry of a held cut.
abbrev pub entry_of : CutView → Entry
entry_of cut = record { router = cut.router; neighbour = cut.neighbour; value = cut.value; side = cut.side }

-- The tables after the commit of an entry.
abbrev pub commit : ℕ → Tables → Entry → Tables
commit root T entry = record {
  up = up_after root T.up entry.router entry.neighbour (set_of entry.side);
  width = width_after root T.up T.width entry.router entry.neighbour entry.value (set_of entry.side);
}

-- The tables of a history, whose oldest entry comes first.
unfoldable pub tables : ℕ → List Entry → Tables
tables root history = fold (commit root) (start root) history

-- The routers that have an entry in a history.
unfoldable pub entered : List Entry → RouterSet
entered history router = list_any (λ entry. router == entry.router) history

-- An entry may follow the entries before it: its router is a terminal but not the root and has no entry
-- yet, its neighbour is the one above the router by then, and its side is a least cut between the two.
pub record MayFollow (net : Net) (before : List Entry) (entry : Entry) : Type 0 where
  pub terminal : IsTerminal net entry.router
  pub not_root : entry.router ≢ root_of net
  pub fresh : entered before entry.router ≡ false
  pub neighbour : entry.neighbour ≡ (tables (root_of net) before).up entry.router
  pub size : length entry.side ≡ net.routers
  pub least : IsLeastCut net entry.router entry.neighbour (set_of entry.side) entry.value

-- Each entry may follow those before it, the earlier ones included.
unfoldable pub IsLegalAfter : Net → List Entry → List Entry → Type 0
IsLegalAfter net before [] = Unit {0}
IsLegalAfter net before (entry ∷ rest) =
    MayFollow net before entry × IsLegalAfter net (before ++ entry ∷ []) rest

-- Each entry of a history may follow those before it.
abbrev pub IsLegal : Net → List Entry → Type 0
IsLegal net history = IsLegalAfter net [] history

-- Each terminal but the root has an entry.
abbrev pub AllEntered : Net → List Entry → Type 0
AllEntered net history =
    (router : ℕ) → IsTerminal net router → router ≢ root_of net → entered history router ≡ true

-- A legal history in which each terminal but the root has an entry.
pub record IsComplete (net : Net) (history : List Entry) : Type 0 where
  pub legal : IsLegal net history
  pub all : AllEntered net history

-- Some terminal but the root has no entry.
pub record SomeOpen (net : Net) (history : List Entry) : Type 0 where
  pub router : ℕ
  pub terminal : IsTerminal net router
  pub not_root : router ≢ root_of net
  pub fresh : entered history router ≡ false
