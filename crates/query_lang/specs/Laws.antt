-- Laws of replies, over the texts that a client reads.
use Rattle.std.specs.Prelude.{◌≡◌, ℕ, ◌≤◌, List, Bool, codes, length, map, not, reverse, Contains, true, false}
use Rattle.cut_model.specs.Cuts.{cut_value}
use Rattle.cut_model.specs.Terminals.{IsTerminal}
use Rattle.network_text.specs.Sheets.{SheetView}
use Rattle.tree_state.specs.Paths.{side_for}
use Rattle.tree_state.specs.Shown.{ShowsSet}
use Rattle.tree_state.specs.Views.{HoldsCutTree, TreeView, up_of, width_of}
use Rattle.query_lang.specs.Replies.{cut_text}
use Rattle.query_lang.specs.Reports.{IsReport}
use Rattle.query_lang.specs.Trees.{path_text}
use Rattle.query_lang.specs.declared.request.Request.{Request}
use Rattle.query_lang.specs.declared.request.Request.TheVariants.{Cut, Path, Weakest}

-- Two texts that are both the reply to a request from one record are the same.
abbrev pub ReportIsOne : Type 0
ReportIsOne =
    (version : ℕ) (sheet : SheetView) (tree : TreeView) (request : Request) (text other : List ℕ)
    → IsReport version sheet tree request text → IsReport version sheet tree request other → text ≡ other

-- Two replies to CUT tell one value, and each router of the network on just one of the two sides.
pub record TellOneCut (version : ℕ) (sheet : SheetView) (tree : TreeView) (text other : List ℕ) : Type 0 where
  pub value : ℕ
  pub side : List Bool
  pub size : length side ≡ tree.net.routers
  pub told : text ≡ cut_text version (codes "CUT") value sheet.names side
  pub turned : other ≡ cut_text version (codes "CUT") value sheet.names (map not side)

-- So do the replies to CUT for two routers and for the two turned.
abbrev pub CutTurnedIsOneCut : Type 0
CutTurnedIsOneCut =
    (version : ℕ) (sheet : SheetView) (tree : TreeView) (a b : ℕ) (text other : List ℕ)
    → IsReport version sheet tree (Cut a b) text → IsReport version sheet tree (Cut b a) other
    → TellOneCut version sheet tree text other

-- Two replies to PATH have the same lines in opposite orders.
pub record TellOneWay (version : ℕ) (sheet : SheetView) (tree : TreeView) (text other : List ℕ) : Type 0 where
  pub children : List ℕ
  pub told : text ≡ path_text version sheet tree children
  pub turned : other ≡ path_text version sheet tree (reverse children)

-- So have the replies to PATH for two routers and for the two turned.
abbrev pub PathTurnedIsOneWay : Type 0
PathTurnedIsOneWay =
    (version : ℕ) (sheet : SheetView) (tree : TreeView) (a b : ℕ) (text other : List ℕ)
    → IsReport version sheet tree (Path a b) text → IsReport version sheet tree (Path b a) other
    → TellOneWay version sheet tree text other

-- A reply to CUT for a router a and another one tells an edge of a reply to PATH, and its part that holds a: the value
-- is the width of that edge, no edge of the path has a smaller one, and of those that have it, it has the smallest
-- number.
pub record TellLeastOfPath (version : ℕ) (sheet : SheetView) (tree : TreeView) (a : ℕ) (cut path : List ℕ) : Type 0
  where
    pub children : List ℕ
    pub path_told : path ≡ path_text version sheet tree children
    pub child : ℕ
    pub on_path : Contains children child
    pub least : (c : ℕ) → Contains children c → width_of tree child ≤ width_of tree c
    pub first : (c : ℕ) → Contains children c → width_of tree c ≡ width_of tree child → child ≤ c
    pub side : List Bool
    pub side_is : ShowsSet tree.net.routers (side_for tree.net.routers (up_of tree) a child) side
    pub cut_told : cut ≡ cut_text version (codes "CUT") (width_of tree child) sheet.names side

-- So does the reply to CUT for the two routers of a PATH.
abbrev pub CutIsLeastOfPath : Type 0
CutIsLeastOfPath =
    (version : ℕ) (sheet : SheetView) (tree : TreeView) (a b : ℕ) (cut path : List ℕ)
    → IsReport version sheet tree (Cut a b) cut → IsReport version sheet tree (Path a b) path
    → TellLeastOfPath version sheet tree a cut path

-- The edge above c parts a from b, by a cut that costs its width.
pub record PartsBy (tree : TreeView) (a b c : ℕ) : Type 0 where
  pub holds : side_for tree.net.routers (up_of tree) a c a ≡ true
  pub lacks : side_for tree.net.routers (up_of tree) a c b ≡ false
  pub value : cut_value tree.net (side_for tree.net.routers (up_of tree) a c) ≡ width_of tree c

-- A reply to PATH tells edges of which each parts the two routers.
pub record TellPartingEdges (version : ℕ) (sheet : SheetView) (tree : TreeView) (a b : ℕ) (text : List ℕ) : Type 0
  where
    pub children : List ℕ
    pub told : text ≡ path_text version sheet tree children
    pub part : (c : ℕ) → Contains children c → PartsBy tree a b c

-- Each does, in a cut tree.
abbrev pub PathPartsItsEnds : Type 0
PathPartsItsEnds =
    (version : ℕ) (sheet : SheetView) (tree : TreeView) → HoldsCutTree tree → (a b : ℕ) → IsTerminal tree.net a
    → IsTerminal tree.net b → (text : List ℕ) → IsReport version sheet tree (Path a b) text
    → TellPartingEdges version sheet tree a b text

-- A reply to WEAKEST tells no more than a reply to CUT.
pub record TellsNoMore (version : ℕ) (sheet : SheetView) (weakest cut : List ℕ) : Type 0 where
  pub value : ℕ
  pub side : List Bool
  pub told : weakest ≡ cut_text version (codes "WEAKEST") value sheet.names side
  pub cost : ℕ
  pub cut_side : List Bool
  pub cut_told : cut ≡ cut_text version (codes "CUT") cost sheet.names cut_side
  pub no_more : value ≤ cost

-- No cut of two routers costs less than the weakest cut of the network.
abbrev pub WeakestIsNoMoreThanCut : Type 0
WeakestIsNoMoreThanCut =
    (version : ℕ) (sheet : SheetView) (tree : TreeView) (a b : ℕ) → IsTerminal tree.net a → IsTerminal tree.net b
    → (weakest cut : List ℕ) → IsReport version sheet tree Weakest weakest → IsReport version sheet tree (Cut a b) cut
    → TellsNoMore version sheet weakest cut
