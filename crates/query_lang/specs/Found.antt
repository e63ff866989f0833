-- The lines of a reply, by what was found for it.
use Rattle.std.specs.Prelude.{◌≡◌, ℕ, ◌<◌, List, [], ◌∷◌, All, codes, length}
use Rattle.network_text.specs.Sheets.{IsSheet, SheetView}
use Rattle.query_lang.specs.Edges.{IsPassed}
use Rattle.query_lang.specs.Replies.{cut_text, net_lines}
use Rattle.query_lang.specs.Trees.{path_lines, run_lines, tree_lines}
use Rattle.query_lang.specs.declared.found.Found.{Found}
use Rattle.query_lang.specs.declared.found.Found.TheVariants.{Cut, Path, Tree, Run, Net, Weakest}
use Rattle.query_lang.specs.declared.trees.PassedEdges.{PassedEdges}
use Rattle.tree_state.specs.Views.{TreeView}

-- The lines of the reply that tells what was found.
abbrev pub found_lines : ℕ → SheetView → TreeView → Found → List (List ℕ)
found_lines version sheet tree (Cut cut) = cut_text version (codes "CUT") cut.value sheet.names cut.side ∷ []
found_lines version sheet tree (Path children) = path_lines version sheet tree children.now
found_lines version sheet tree Tree = tree_lines version sheet tree
found_lines version sheet tree Run = run_lines version sheet tree
found_lines version sheet tree Net = net_lines version sheet
found_lines version sheet tree (Weakest cut) = cut_text version (codes "WEAKEST") cut.value sheet.names cut.side ∷ []

-- What was found fits the network: a side has each router of it, and the edges of a path are edges above its routers.
abbrev pub IsFound : SheetView → Found → Type 0
IsFound sheet (Cut cut) = length cut.side ≡ length sheet.names
IsFound sheet (Path children) = All (λ child. child < sheet.net.routers) children.now
IsFound sheet (Weakest cut) = length cut.side ≡ length sheet.names
IsFound sheet found = Unit {0}

-- What a report keeps.
pub record IsHeld (sheet : SheetView) (tree : TreeView) (found : Found) (passed : PassedEdges) : Type 0 where
  pub sheet_is : IsSheet sheet.names sheet.net
  pub same : tree.net ≡ sheet.net
  pub found_is : IsFound sheet found
  pub passed_is : IsPassed tree.net passed
