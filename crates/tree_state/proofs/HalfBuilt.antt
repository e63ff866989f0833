-- Every legal history has built half a tree of least cuts.
use Rattle.std.proofs.Common.{◌≡◌, ◌≢◌, inl, inr, ℕ, suc, ◌<◌, ◌≤◌, true, false, cond, List, [], ◌∷◌, ◌++◌, length}
use Rattle.std.proofs.Common.{sym, ◌∙◌, ap, arith, refl, add-one}
use Rattle.std.specs.Prelude.{◌==◌}
use Rattle.std.proofs.lemmas.Bool.{cases_Bool, false≢true, eq-eqb, ne_eqb}
use Rattle.std.proofs.lemmas.List.{length_push}
use Rattle.cut_model.specs.Net.{Net}
use Rattle.cut_model.specs.Cuts.{RouterSet, set_of}
use Rattle.cut_model.specs.Terminals.{root_of}
use Rattle.cut_model.proofs.Counting.{with_number, with_number-other, number_in-lt, number_in-new}
use Rattle.cut_model.proofs.Crossing.{same_sets}
use Rattle.cut_model.proofs.Terminals.{terminal-lt}
use Rattle.tree_state.specs.declared.entry.Entry.{Entry}
use Rattle.tree_state.specs.Tables.{Table, Tables, swaps}
use Rattle.tree_state.specs.History.{commit, tables, entered, MayFollow, IsLegalAfter, IsLegal}
use Rattle.tree_state.specs.Trees.{CutsBelow, IsHalfBuiltTree}
use Rattle.tree_state.proofs.Histories.{tables-push, entered-push, legal_push, by_entries}
use Rattle.tree_state.proofs.Ranges.{bounded, length-lt-more}
use Rattle.tree_state.proofs.Stages.{HasShape, Stage, Commit}
use Rattle.tree_state.proofs.Plain.{plain_depth}
use Rattle.tree_state.proofs.Swap.{swap_depth}
use Rattle.tree_state.proofs.KeptShape.{plain_shape, swap_shape}
use Rattle.tree_state.proofs.KeptCuts.{plain_cuts, swap_cuts}
use Rattle.tree_state.proofs.WaysUp.{ends_at_root}

-- What m commits have built: tables of the right shape, and a least cut under each committed router.
pub record IsBuilt (net : Net) (m : ℕ) (T : Tables) (done : RouterSet) : Type 0 where
  pub depth : Table
  pub shape : HasShape net.routers m (root_of net) T.up depth done
  pub cuts : (r : ℕ) → done r ≡ true → CutsBelow net T.up T.width r

-- What the commits of a history have built.
abbrev pub HasBuilt : Net → List Entry → Type 0
HasBuilt net history = IsBuilt net (length history) (tables (root_of net) history) (entered history)

-- ---- no commit

-- The depths before any commit: each router but the root lies one deep.
start_depth : ℕ → Table
start_depth root i = cond (i == root) 0 1

-- the root lies on top
start_depth-root : (root : ℕ) → start_depth root root ≡ 0
unfolding start_depth
start_depth-root root = rw (eq-eqb root root refl) refl

-- all others lie one deep
start_depth-other : (root i : ℕ) → i ≢ root → start_depth root i ≡ 1
unfolding start_depth
start_depth-other root i ne = rw (ne_eqb i root ne) refl

-- and none deeper
start_depth-le : (root i : ℕ) → start_depth root i ≤ 1
unfolding start_depth
start_depth-le root i = grind (arith, cases_Bool (i == root))

-- the tables of the empty history are built
built_start : (net : Net) → root_of net < net.routers → HasBuilt net []
unfolding tables entered
built_start net room = record {
  depth = start_depth (root_of net);
  shape = record {
    forest = record {
      top = refl;
      step = λ i ne. start_depth-other (root_of net) i ne
          ∙ ap (λ (k : ℕ). suc k) (sym (start_depth-root (root_of net)));
    };
    inner = λ i. inl refl;
    root_free = refl;
    within = λ i committed. absurd (false≢true committed);
    shallow = λ i. start_depth-le (root_of net) i;
    shallow_done = λ i committed. absurd (false≢true committed);
    room = omega arith;
  };
  cuts = λ r committed. absurd (false≢true committed);
}

-- ---- one commit more

-- The tree that a history has built.
abbrev stage_of : (net : Net) (history : List Entry) → HasBuilt net history → Stage
stage_of net history built = record {
  routers = net.routers;
  commits = length history;
  root = root_of net;
  up = (tables (root_of net) history).up;
  depth = built.depth;
  done = entered history;
  shape = built.shape;
}

-- The commit of an entry that may follow.
abbrev commit_of : (net : Net) (history : List Entry) (built : HasBuilt net history) (entry : Entry)
    → MayFollow net history entry → Commit (stage_of net history built)
commit_of net history built entry may = record {
  s = entry.router;
  t = entry.neighbour;
  X = set_of entry.side;
  not_root = may.not_root;
  fresh = may.fresh;
  neighbour = sym may.neighbour;
  holds = may.least.holds;
  lacks = may.least.lacks;
}

-- it builds on
built_commit : (net : Net) (history : List Entry) (entry : Entry) → HasBuilt net history → MayFollow net history entry
    → suc (suc (length history)) ≤ net.routers
    → IsBuilt net (suc (length history)) (commit (root_of net) (tables (root_of net) history) entry)
    (with_number entry.router (entered history))
built_commit net history entry built may room =
    let g : Stage = stage_of net history built in
    let c : Commit g = commit_of net history built entry may in
    let s_in : entry.router < net.routers = terminal-lt net entry.router may.terminal in
    let width : Table = (tables (root_of net) history).width in
    elim (cases_Bool (swaps (root_of net) (tables (root_of net) history).up entry.neighbour (set_of entry.side))) [
      | inl swap ↦ record {
        depth = swap_depth g c;
        shape = swap_shape g c swap s_in room;
        cuts = swap_cuts net g c width built.cuts swap entry.value may.least s_in room;
      }
      | inr plain ↦ record {
        depth = plain_depth g c;
        shape = plain_shape g c plain s_in room;
        cuts = plain_cuts net g c width built.cuts plain entry.value may.least s_in room;
      }
    ]

-- the entered routers are those before and the entry's
entered-push_all : (history : List Entry) (entry : Entry)
    → entered (history ++ entry ∷ []) ≡ with_number entry.router (entered history)
entered-push_all history entry =
    same_sets (entered (history ++ entry ∷ [])) (with_number entry.router (entered history))
    (entered-push history entry)

-- so an entry that may follow a legal history builds on
built_push : (net : Net) → root_of net < net.routers → (history : List Entry) (entry : Entry) → IsLegal net history
    → HasBuilt net history → MayFollow net history entry → HasBuilt net (history ++ entry ∷ [])
built_push net room history entry legal built may =
    rw (tables-push (root_of net) history entry, entered-push_all history entry, length_push history entry, add-one)
    (built_commit net history entry built may (length-lt-more net room history entry legal may))

-- ---- every legal history

-- What holds of each legal history: it is legal, and it has built.
record HasGrown (net : Net) (history : List Entry) : Type 0 where
  pub legal : IsLegal net history
  pub built : HasBuilt net history

-- the empty history
grown_start : (net : Net) → root_of net < net.routers → HasGrown net []
unfolding IsLegalAfter
grown_start net room = record { legal = tt; built = built_start net room }

-- an entry more
grown_push : (net : Net) → root_of net < net.routers → (history : List Entry) (entry : Entry) → HasGrown net history
    → MayFollow net history entry → HasGrown net (history ++ entry ∷ [])
grown_push net room history entry grown may = record {
  legal = legal_push net history entry grown.legal may;
  built = built_push net room history entry grown.legal grown.built may;
}

-- a legal history has built
pub built : (net : Net) → root_of net < net.routers → (history : List Entry) → IsLegal net history
    → HasBuilt net history
built net room history legal =
    (by_entries net (HasGrown net) (grown_start net room) (grown_push net room) history legal).built

-- ---- the half-built tree

-- a router of the network lies less deep than there are routers
depth-lt : (net : Net) → root_of net < net.routers → (history : List Entry) (legal : IsLegal net history)
    (built_tree : HasBuilt net history) (i : ℕ) → i < net.routers → i ≢ root_of net
    → built_tree.depth i < net.routers
depth-lt net room history legal built_tree i low not_root = elim (cases_Bool (entered history i)) [
  | inl committed ↦ omega (arith, built_tree.shape.shallow_done i committed, built_tree.shape.room)
  | inr fresh ↦ omega (
    arith,
    built_tree.shape.shallow i,
    (bounded net room history legal).count,
    number_in-new (entered history) i net.routers fresh low,
    number_in-lt (with_number i (entered history)) (root_of net) net.routers root_out room,
  )
]
  where
    root_out : with_number i (entered history) (root_of net) ≡ false
    root_out =
        with_number-other i (entered history) (root_of net) (λ e. not_root (sym e)) ∙ built_tree.shape.root_free

-- the tables of a legal history are a half-built tree
pub half_built : (net : Net) → root_of net < net.routers → (history : List Entry) → IsLegal net history
    → IsHalfBuiltTree net (tables (root_of net) history).up (tables (root_of net) history).width (entered history)
half_built net room history legal = record {
  cuts = tree.cuts;
  ends = λ i low. ends_at_root (root_of net) (tables (root_of net) history).up tree.depth tree.shape.forest
      net.routers i (omega arith) (depth-lt net room history legal tree i low);
  inner = tree.shape.inner;
}
  where
    tree : HasBuilt net history
    tree = built net room history legal
