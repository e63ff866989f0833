-- Laws of histories and of cut trees.
use Rattle.std.specs.Prelude.{ℕ, ◌≢◌, ◌≤◌, List}
use Rattle.cut_model.specs.Net.{Net, IsInLimits}
use Rattle.cut_model.specs.Cuts.{IsLeastCut}
use Rattle.cut_model.specs.Terminals.{is_terminal, IsTerminal, terminal_count, root_of}
use Rattle.tree_state.specs.declared.entry.Entry.{Entry}
use Rattle.tree_state.specs.Tables.{Table, below}
use Rattle.tree_state.specs.History.{tables, entered, IsLegal, IsComplete}
use Rattle.tree_state.specs.Moves.{moves, sum_over, most_moves}
use Rattle.tree_state.specs.Trees.{IsHalfBuiltTree, IsCutTree}
use Rattle.tree_state.specs.Paths.{IsLeastEdge, side_for, IsWeakest, IsGlobalCut}

-- The tables of a legal history are a half-built tree: what is below each entered router is a least cut of it from
-- the router above it and costs its width, every way up ends at the root, and all hang from the root or an entered
-- router.
abbrev pub LegalHistoryBuildsHalf : Type 0
LegalHistoryBuildsHalf =
    (net : Net) → IsInLimits net → (history : List Entry) → IsLegal net history →
    IsHalfBuiltTree net (tables (root_of net) history).up (tables (root_of net) history).width (entered history)

-- The tables of a complete history are a cut tree.
abbrev pub CompleteHistoryIsCutTree : Type 0
CompleteHistoryIsCutTree =
    (net : Net) → IsInLimits net → (history : List Entry) → IsComplete net history →
    IsCutTree net (root_of net) (tables (root_of net) history).up (tables (root_of net) history).width

-- The moves of the terminals of a legal history, each counted until it is entered, sum to no more than the most. Where
-- the root is the only terminal both are 0.
abbrev pub LegalHistoryMakesFewMoves : Type 0
LegalHistoryMakesFewMoves =
    (net : Net) → IsInLimits net → (history : List Entry) → IsLegal net history →
    sum_over (is_terminal net) (moves (root_of net) history) net.routers ≤ most_moves (terminal_count net)

-- In a cut tree, two terminals that differ have a least edge on their path.
abbrev pub PathHasLeastEdge : Type 0
PathHasLeastEdge =
    (net : Net) (root : ℕ) (up width : Table) → IsCutTree net root up width → (a b : ℕ) → IsTerminal net a →
    IsTerminal net b → a ≢ b → (c : ℕ) × IsLeastEdge net up width a b c

-- The side of the least edge that holds the first terminal is a least cut of the two, and costs the edge's width.
abbrev pub LeastEdgeIsLeastCut : Type 0
LeastEdgeIsLeastCut =
    (net : Net) (root : ℕ) (up width : Table) → IsCutTree net root up width → (a b c : ℕ) → IsTerminal net a →
    IsTerminal net b → IsLeastEdge net up width a b c →
    IsLeastCut net a b (side_for net.routers up a c) (width c)

-- A cut tree with at least two terminals has a weakest edge.
abbrev pub TreeHasWeakestEdge : Type 0
TreeHasWeakestEdge =
    (net : Net) (root : ℕ) (up width : Table) → IsCutTree net root up width → 2 ≤ terminal_count net →
    (c : ℕ) × IsWeakest net root width c

-- What is below the weakest edge of a cut tree costs its width, and no set that holds one terminal and lacks another
-- costs less.
abbrev pub WeakestEdgeIsGlobalCut : Type 0
WeakestEdgeIsGlobalCut =
    (net : Net) (root : ℕ) (up width : Table) → IsCutTree net root up width → (c : ℕ) → IsWeakest net root width c →
    IsGlobalCut net (below net.routers up c) (width c)
