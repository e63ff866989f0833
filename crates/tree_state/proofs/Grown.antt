-- What a growing tree keeps, from the empty history on and through each commit.
use Rattle.std.proofs.Common.{◌≡◌, ◌≢◌, ◌⊎◌, inl, inr, ℕ, ◌<◌, ◌≤◌, Bool, true, false, List, [], ◌∷◌, ◌++◌, length}
use Rattle.std.proofs.Common.{set, replicate, sym, ap, ◌∙◌, refl, arith, get_or-set_same, get_or-set_other}
use Rattle.std.proofs.Math.ListN.{length-set}
use Rattle.std.proofs.lemmas.Bool.{cases_eq, false≢true}
use Rattle.std.proofs.lemmas.List.{length-replicate, get_or-replicate}
use Rattle.std.specs.Prelude.{slice_index, slice_index_or}
use Rattle.cut_model.specs.declared.network.TheConstants.{MOST_VALUE}
use Rattle.cut_model.specs.Net.{Net, IsInLimits}
use Rattle.cut_model.specs.Held.{CutView, IsHeldCut}
use Rattle.cut_model.specs.Terminals.{IsTerminal, root_of}
use Rattle.cut_model.proofs.Counting.{with_number-same, with_number-other}
use Rattle.cut_model.proofs.Terminals.{root-lt}
use Rattle.tree_state.specs.declared.entry.Entry.{Entry}
use Rattle.tree_state.specs.Tables.{Tables, tables_of, up_after, width_after}
use Rattle.tree_state.specs.History.{commit, tables, entered, entry_of, MayFollow, IsLegalAfter}
use Rattle.tree_state.specs.Growing.{IsGrown}
use Rattle.tree_state.specs.Trees.{IsHalfBuiltTree}
use Rattle.tree_state.proofs.Histories.{tables-push, entered-push, legal_push}
use Rattle.tree_state.proofs.HalfBuilt.{half_built}
use Rattle.tree_state.proofs.Ranges.{bounded, length-lt, widths-most}

-- the tables of the empty history
pub grown_start : (net : Net)
    → IsGrown net (replicate net.routers (root_of net)) (replicate net.routers 0) (replicate net.routers false) []
unfolding tables entered IsLegalAfter
grown_start net = record {
  ups = length-replicate net.routers (root_of net);
  widths = length-replicate net.routers 0;
  marks = length-replicate net.routers false;
  up_is = λ i low. get_or-replicate net.routers i (root_of net) 0 low;
  width_is = λ i low. get_or-replicate net.routers i 0 0 low;
  done_is = λ i low. get_or-replicate net.routers i false false low;
  legal = tt;
}

-- a held cut makes an entry that may follow
pub may_follow : (net : Net) (history : List Entry) (cut : CutView) → IsHeldCut cut → cut.net ≡ net
    → IsTerminal net cut.router → cut.router ≢ root_of net → entered history cut.router ≡ false
    → cut.neighbour ≡ (tables (root_of net) history).up cut.router → MayFollow net history (entry_of cut)
may_follow net history cut held same terminal not_root fresh neighbour = record {
  terminal = terminal;
  not_root = not_root;
  fresh = fresh;
  neighbour = neighbour;
  size = held.size ∙ ap (λ (n : Net). n.routers) same;
  least = rw (← same) held.least;
}

-- what is above a router is one of the network
pub above-lt : {net : Net} {up width : List ℕ} {done : List Bool} {history : List Entry}
    → IsGrown net up width done history → IsInLimits net → (i : ℕ) → i < net.routers
    → slice_index up i < net.routers
above-lt {net = net} {history = history} g limits i low =
    rw (g.up_is i low) ((bounded net (root-lt net limits) history g.legal).ups i)

-- and above a router that isn't entered, and isn't the root, is another one
pub above-other : {net : Net} {up width : List ℕ} {done : List Bool} {history : List Entry}
    → IsGrown net up width done history → IsInLimits net → (s : ℕ) → entered history s ≡ false → s ≢ root_of net
    → s ≢ (tables (root_of net) history).up s
above-other {net = net} {history = history} g limits s fresh not_root same = elim (half.inner s) [
  | inl top ↦ not_root (same ∙ top)
  | inr is_entered ↦ false≢true (sym fresh ∙ ap (entered history) same ∙ is_entered)
]
  where
    half : IsHalfBuiltTree net (tables (root_of net) history).up (tables (root_of net) history).width (entered history)
    half = half_built net (root-lt net limits) history g.legal

-- no width is more than a cut may cost
pub width-most : {net : Net} {up width : List ℕ} {done : List Bool} {history : List Entry}
    → IsGrown net up width done history → IsInLimits net → (i : ℕ) → i < net.routers
    → slice_index width i ≤ MOST_VALUE
width-most {net = net} {history = history} g limits i low =
    rw (g.width_is i low) (widths-most net limits history g.legal i)

-- there are fewer entries than routers
pub entries-lt : {net : Net} {up width : List ℕ} {done : List Bool} {history : List Entry}
    → IsGrown net up width done history → IsInLimits net → length history < net.routers
entries-lt {net = net} {history = history} g limits = length-lt net (root-lt net limits) history g.legal

-- of what is above the routers a commit reads two places alone
up_after-same : (root : ℕ) (T other : Tables) (entry : Entry) (i : ℕ) → T.up i ≡ other.up i
    → T.up entry.neighbour ≡ other.up entry.neighbour → (commit root T entry).up i ≡ (commit root other entry).up i
unfolding up_after
up_after-same root T other entry i here there = rw (here, there) refl

-- and so of the widths
width_after-same : (root : ℕ) (T other : Tables) (entry : Entry) (i : ℕ)
    → T.up entry.neighbour ≡ other.up entry.neighbour → T.width i ≡ other.width i
    → T.width entry.neighbour ≡ other.width entry.neighbour
    → (commit root T entry).width i ≡ (commit root other entry).width i
unfolding width_after
width_after-same root T other entry i above here there = rw (above, here, there) refl

-- What the lists are after the commit of an entry.
pub record IsCommitted (net : Net) (up width next_up next_width : List ℕ) (entry : Entry) : Type 0 where
  pub ups : length next_up ≡ length up
  pub widths : length next_width ≡ length width
  pub up_is :
      (i : ℕ) → i < length next_up → slice_index next_up i
      ≡ (commit (root_of net) (tables_of up width) entry).up i
  pub width_is :
      (i : ℕ) → i < length next_width → slice_index next_width i
      ≡ (commit (root_of net) (tables_of up width) entry).width i

-- the marks are those of the entered routers
done_push : (done : List Bool) (history : List Entry) (entry : Entry) (n i : ℕ) → length done ≡ n → i < n
    → slice_index_or done i false ≡ entered history i → (i ≡ entry.router) ⊎ (i ≢ entry.router)
    → slice_index_or (set done entry.router true) i false ≡ entered (history ++ entry ∷ []) i
done_push done history entry n i len low same (inl here) =
    rw (entered-push history entry i, here, with_number-same entry.router (entered history))
    (get_or-set_same done entry.router true false (omega arith))
done_push done history entry n i len low same (inr other) =
    rw (entered-push history entry i, with_number-other entry.router (entered history) i other)
    (get_or-set_other done entry.router i true false other ∙ same)

-- a commit keeps a tree grown
pub grown_push : (net : Net) (up width next_up next_width : List ℕ) (done : List Bool) (history : List Entry)
    (entry : Entry) → IsInLimits net → IsGrown net up width done history
    → MayFollow net history entry → IsCommitted net up width next_up next_width entry
    → IsGrown net next_up next_width (set done entry.router true) (history ++ entry ∷ [])
grown_push net up width next_up next_width done history entry limits g may after = record {
  ups = after.ups ∙ g.ups;
  widths = after.widths ∙ g.widths;
  marks = length-set done entry.router true ∙ g.marks;
  up_is = λ i low. after.up_is i (omega (arith, after.ups, g.ups))
      ∙ up_after-same (root_of net) (tables_of up width) (tables (root_of net) history) entry i
      (g.up_is i low) (g.up_is entry.neighbour neighbour_in)
      ∙ ap (λ (T : Tables). T.up i) (sym (tables-push (root_of net) history entry));
  width_is = λ i low. after.width_is i (omega (arith, after.widths, g.widths))
      ∙ width_after-same (root_of net) (tables_of up width) (tables (root_of net) history) entry i
      (g.up_is entry.neighbour neighbour_in) (g.width_is i low) (g.width_is entry.neighbour neighbour_in)
      ∙ ap (λ (T : Tables). T.width i) (sym (tables-push (root_of net) history entry));
  done_is = λ i low.
      done_push done history entry net.routers i g.marks low (g.done_is i low) (cases_eq i entry.router);
  legal = legal_push net history entry g.legal may;
}
  where
    neighbour_in : entry.neighbour < net.routers
    neighbour_in = rw may.neighbour ((bounded net (root-lt net limits) history g.legal).ups entry.router)
