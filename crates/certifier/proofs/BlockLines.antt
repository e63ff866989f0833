-- The lines of a block.
use Rattle.std.proofs.Common.{◌≡◌, ◌≢◌, ℕ, zero, suc, ◌-◌, List, refl, ap, arith, pos, slice_index_or}
use Rattle.cut_model.specs.Cuts.{IsLeastCut, RouterSet}
use Rattle.cut_model.specs.Flow.{IsFlow}
use Rattle.cut_model.proofs.Terminals.{all_terminals}
use Rattle.tree_state.specs.Tables.{below}
use Rattle.tree_state.specs.Views.{HoldsCutTree, TreeView, up_of, width_of}
use Rattle.certifier.specs.Blocks.{BlockLine, Carried, CarriesFlow, edge_text, on_text}
use Rattle.certifier.specs.Lines.{IsLowerEnd}

-- A greatest flow from a router to the one above it is as great as the edge between the two is wide.
pub carries_made : (tree : TreeView) (child : ℕ) (carry : Carried) → HoldsCutTree tree → IsLowerEnd tree.net child
    → carry.net ≡ tree.net
    → ((X : RouterSet) (k : ℕ) → IsLeastCut tree.net child (up_of tree child) X k
    → IsFlow tree.net child (up_of tree child) carry.flow k)
    → CarriesFlow tree child carry
carries_made tree child carry cut_tree lower same greatest = record {
  net = same;
  flow = greatest (below tree.net.routers (up_of tree) child) (width_of tree child)
      (cut_tree.cuts child (all_terminals tree.net child lower.within) lower.not_root);
}

-- The first line of a block begins a flow.
pub first_line : (word : List ℕ) (names : List (List ℕ)) (tree : TreeView) (child k : ℕ) (carry carry2 : Carried)
    → k ≡ 0 → CarriesFlow tree child carry2
    → BlockLine word names tree child k carry (edge_text word names tree child) carry2
first_line word names tree child k carry carry2 first carries = rw first (refl, carries)

-- Each other line tells the flow on the link before its place.
pub value_line : (word : List ℕ) (names : List (List ℕ)) (tree : TreeView) (child k : ℕ) (carry : Carried) → k ≢ 0
    → BlockLine word names tree child k carry (on_text (slice_index_or carry.flow (k - 1) (pos 0))) carry
value_line word names tree child zero carry behind = absurd (behind refl)
value_line word names tree child (suc link) carry behind =
    let same : suc link - 1 ≡ link = omega arith in
    (ap (λ (i : ℕ). on_text (slice_index_or carry.flow i (pos 0))) same, refl)
