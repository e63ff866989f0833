-- What is kept of the weakest edge of a tree.
use Rattle.std.proofs.Common.{◌≡◌, Some, None, sym, subst, refl}
use Rattle.std.proofs.lemmas.Bool.{false≢true}
use Rattle.std.specs.Prelude.{IsNone, IfSome}
use Rattle.std.specs.declared.option.Option.{Option}
use Rattle.cut_model.specs.Terminals.{terminal_count, root_of}
use Rattle.tree_state.specs.Views.{TreeView, up_of, width_of, HoldsCutTree}
use Rattle.tree_state.specs.Paths.{IsGlobalCut}
use Rattle.tree_state.proofs.WeakestEdges.{weakest_edge_cut}
use Rattle.path_minimum.specs.declared.weakest_edge.WeakestCut.{WeakestCut}
use Rattle.path_minimum.specs.Ladders.{IsWeakestCut, IsWeakestCutOf}
use Rattle.path_minimum.specs.Stretches.{below_in}

-- what holds of each such edge holds of what was found
pub found-all : (tree : TreeView) (found : Option WeakestCut) → IsWeakestCutOf tree found → (P : WeakestCut → Type 0)
    → ((cut : WeakestCut) → IsWeakestCut tree cut → P cut) → IfSome found P
found-all tree None is P all = tt
found-all tree (Some cut) is P all = all cut (is.some cut refl)

-- none was found just where there is one terminal
pub found-none : (tree : TreeView) (found : Option WeakestCut) → IsWeakestCutOf tree found
    → (IsNone found → terminal_count tree.net ≡ 1) × (terminal_count tree.net ≡ 1 → IsNone found)
found-none tree None is = (λ none. is.none refl, λ one. refl)
found-none tree (Some cut) is = (λ none. absurd (false≢true (sym none)), λ one. absurd ((is.some cut refl).several one))

-- what is below the edge is a least cut of the whole network
pub found-least : (tree : TreeView) → HoldsCutTree tree → (cut : WeakestCut) → IsWeakestCut tree cut
    → IsGlobalCut tree.net (below_in tree cut.edge.child) cut.edge.width
found-least tree holds cut is =
    subst (IsGlobalCut tree.net (below_in tree cut.edge.child)) (sym is.width)
    (weakest_edge_cut tree.net (root_of tree.net) (up_of tree) (width_of tree) holds cut.edge.child is.weakest)
