-- Which text is the reply to a request that is answered from a network and its tree.
use Rattle.std.specs.Prelude.{◌≡◌, ℕ, ◌<◌, ◌≤◌, List, [], Bool, true, false, codes, length, slice_index_or, Result, Ok}
use Rattle.std.specs.Prelude.{Err}
use Rattle.std.specs.List.{concat}
use Rattle.cut_model.specs.Cuts.{IsLeastCut, set_of}
use Rattle.cut_model.specs.Terminals.{root_of}
use Rattle.network_text.specs.Sheets.{SheetView}
use Rattle.path_minimum.specs.Paths.{IsOrderedPath}
use Rattle.tree_state.specs.Views.{TreeView, up_of, width_of}
use Rattle.tree_state.specs.Paths.{IsLeastEdge, IsWeakest, IsGlobalCut, side_for}
use Rattle.tree_state.specs.Shown.{ShowsSet}
use Rattle.tree_state.specs.Tables.{below}
use Rattle.reply_lines.specs.Tails.{lines_in}
use Rattle.reply_lines.specs.declared.run.TheConstants.{MOST_REPLY_LINE_BYTES}
use Rattle.wires.specs.Puts.{Puts}
use Rattle.wires.specs.declared.sinks.Sink.{Ghosts}
use Rattle.query_lang.specs.declared.request.Request.{Request}
use Rattle.query_lang.specs.declared.request.Request.TheVariants.{Cut, Path, Tree, Run, Net, Weakest}
use Rattle.query_lang.specs.Replies.{cut_text, net_text}
use Rattle.query_lang.specs.Trees.{path_text, run_text, tree_text}

-- The reply to CUT tells the least edge of the path of routers a and b: its width, and the names of the routers on the
-- side of it that holds a. So it is a cut of a from b, costs its value, and no other cut of a from b costs less.
pub record IsCutReport (version : ℕ) (sheet : SheetView) (tree : TreeView) (a b : ℕ) (text : List ℕ) : Type 0 where
  pub child : ℕ
  pub least_edge : IsLeastEdge tree.net (up_of tree) (width_of tree) a b child
  pub side : List Bool
  pub side_is : ShowsSet tree.net.routers (side_for tree.net.routers (up_of tree) a child) side
  pub least : IsLeastCut tree.net a b (set_of side) (width_of tree child)
  pub text_is : text ≡ cut_text version (codes "CUT") (width_of tree child) sheet.names side

-- The reply to PATH tells the edges of the path of routers a and b in their order.
pub record IsPathReport (version : ℕ) (sheet : SheetView) (tree : TreeView) (a b : ℕ) (text : List ℕ) : Type 0 where
  pub children : List ℕ
  pub path : IsOrderedPath tree.net (up_of tree) a b children
  pub text_is : text ≡ path_text version sheet tree children

-- The reply to WEAKEST tells the weakest edge of the tree: its width, and the names of the routers below it. So it
-- parts terminals, costs its value, and no other set that parts terminals costs less.
pub record IsWeakestReport (version : ℕ) (sheet : SheetView) (tree : TreeView) (text : List ℕ) : Type 0 where
  pub child : ℕ
  pub weakest : IsWeakest tree.net (root_of tree.net) (width_of tree) child
  pub side : List Bool
  pub side_is : ShowsSet tree.net.routers (below tree.net.routers (up_of tree) child) side
  pub least : IsGlobalCut tree.net (set_of side) (width_of tree child)
  pub text_is : text ≡ cut_text version (codes "WEAKEST") (width_of tree child) sheet.names side

-- The text is the reply to a request from a network with the names of its routers, and its tree.
abbrev pub IsReport : ℕ → SheetView → TreeView → Request → List ℕ → Type 0
IsReport version sheet tree (Cut a b) text = IsCutReport version sheet tree a b text
IsReport version sheet tree (Path a b) text = IsPathReport version sheet tree a b text
IsReport version sheet tree Tree text = text ≡ tree_text version sheet tree
IsReport version sheet tree Run text = text ≡ run_text version sheet tree
IsReport version sheet tree Net text = text ≡ net_text version sheet
IsReport version sheet tree Weakest text = IsWeakestReport version sheet tree text
IsReport version sheet tree _ text = ⊥

-- A text of the wanted kind was put into a sink: all of it, or at a failure a front of it.
pub record PutsSome {S E : Type 0} (g : Ghosts S) (old new : S) (result : Result (Unit {0}) E)
    (IsWanted : List ℕ → Type 0) : Type 0 where
  pub text : List ℕ
  pub wanted : IsWanted text
  pub puts : Puts g old new result text

-- The lines are those of the text that is the reply to a request, and all of it.
pub record TellsReport (version : ℕ) (sheet : SheetView) (tree : TreeView) (request : Request) (lines : List (List ℕ)) :
    Type 0 where
  pub text : List ℕ
  pub report : IsReport version sheet tree request text
  pub lines_are : lines ≡ lines_in text
  pub whole : concat lines ≡ text

-- There is a line at a place of these, no longer than a line may be, and it was put: all of it, or at a failure a
-- front of it.
pub record PutsThis {S E : Type 0} (g : Ghosts S) (old new : S) (result : Result (Unit {0}) E) (lines : List (List ℕ))
    (place : ℕ) : Type 0 where
  pub within : place < length lines
  pub short : length (slice_index_or lines place []) ≤ MOST_REPLY_LINE_BYTES
  pub puts : Puts g old new result (slice_index_or lines place [])

-- The line of a place of these was put, or there is none and nothing was put, as the answer says.
abbrev pub PutsAt : {S E : Type 0} → Ghosts S → S → S → Result Bool E → List (List ℕ) → ℕ → Type 0
PutsAt {E = E} g old new (Ok true) lines place = PutsThis {E = E} g old new (Ok tt) lines place
PutsAt g old new (Ok false) lines place = (length lines ≤ place) × (new ≡ old)
PutsAt g old new (Err e) lines place = PutsThis g old new (Err e) lines place

-- The line of a place of a text of the wanted kind was put, where the text has one.
pub record PutsLineOf {S E : Type 0} (g : Ghosts S) (old new : S) (result : Result Bool E)
    (IsWanted : List ℕ → Type 0) (place : ℕ) : Type 0 where
  pub text : List ℕ
  pub wanted : IsWanted text
  pub puts : PutsAt g old new result (lines_in text) place
