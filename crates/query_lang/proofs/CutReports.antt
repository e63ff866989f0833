-- What the least edges of a tree make of a reply.
use Rattle.std.proofs.Common.{◌≡◌, ℕ, ◌<◌, List, Bool, codes, refl}
use Rattle.cut_model.specs.Net.{IsInLimits}
use Rattle.cut_model.specs.Cuts.{IsLeastCut}
use Rattle.cut_model.specs.Terminals.{root_of}
use Rattle.network_text.specs.Sheets.{SheetView}
use Rattle.tree_state.specs.Views.{TreeView, up_of, width_of}
use Rattle.tree_state.specs.Paths.{IsGlobalCut, IsLeastEdge, IsWeakest, side_for}
use Rattle.tree_state.specs.Shown.{ShowsSet}
use Rattle.tree_state.specs.Tables.{below}
use Rattle.tree_state.proofs.Shown.{shown_global_cut, shown_least_cut}
use Rattle.query_lang.specs.Replies.{cut_text}
use Rattle.query_lang.specs.Reports.{IsCutReport, IsWeakestReport}

-- The least edge of a path, with a side that shows what it cuts off for the first router, is a reply to CUT.
pub cut_report : (version : ℕ) (sheet : SheetView) (tree : TreeView) (a b child width : ℕ) (side : List Bool)
    → IsInLimits tree.net → a < tree.net.routers → b < tree.net.routers
    → IsLeastEdge tree.net (up_of tree) (width_of tree) a b child → width ≡ width_of tree child
    → IsLeastCut tree.net a b (side_for tree.net.routers (up_of tree) a child) width
    → ShowsSet tree.net.routers (side_for tree.net.routers (up_of tree) a child) side
    → IsCutReport version sheet tree a b (cut_text version (codes "CUT") width sheet.names side)
cut_report version sheet tree a b child width side limits a_low b_low edge is least shown =
    let cut_off = side_for tree.net.routers (up_of tree) a child in
    record {
      child = child;
      least_edge = edge;
      side = side;
      side_is = shown;
      least = shown_least_cut tree.net limits cut_off side shown a b (width_of tree child) a_low b_low (rw is at least);
      text_is = rw is refl;
    }

-- The weakest edge, with a side that shows what is below it, is a reply to WEAKEST.
pub weakest_report : (version : ℕ) (sheet : SheetView) (tree : TreeView) (child width : ℕ) (side : List Bool)
    → IsInLimits tree.net
    → IsWeakest tree.net (root_of tree.net) (width_of tree) child → width ≡ width_of tree child
    → IsGlobalCut tree.net (below tree.net.routers (up_of tree) child) width
    → ShowsSet tree.net.routers (below tree.net.routers (up_of tree) child) side
    → IsWeakestReport version sheet tree (cut_text version (codes "WEAKEST") width sheet.names side)
weakest_report version sheet tree child width side limits weakest is least shown =
    let cut_off = below tree.net.routers (up_of tree) child in
    record {
      child = child;
      weakest = weakest;
      side = side;
      side_is = shown;
      least = shown_global_cut tree.net limits cut_off side shown (width_of tree child) (rw is at least);
      text_is = rw is refl;
    }
