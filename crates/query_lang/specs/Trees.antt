-- The texts that tell a tree, the run that made it, and paths in it.
use Rattle.std.specs.Prelude.{ℕ, ◌-◌, List, [], ◌∷◌, ◌++◌, ◌&&◌, ◌==◌, not, filter, length, map, codes, decimal}
use Rattle.std.specs.List.{concat, range_with_len}
use Rattle.cut_model.specs.Net.{Net}
use Rattle.cut_model.specs.Cuts.{RouterSet}
use Rattle.cut_model.specs.Terminals.{is_terminal, root_of, terminal_count}
use Rattle.network_text.specs.Sheets.{SheetView}
use Rattle.network_text.specs.Writing.{name_at}
use Rattle.tree_state.specs.Views.{TreeView, up_of, width_of}
use Rattle.tree_state.specs.declared.entry.Entry.{Entry}
use Rattle.query_lang.specs.Replies.{head_text}

-- The line of an edge: the name of its lower end, of the router above it, and a number.
abbrev pub edge_line : List (List ℕ) → ℕ → ℕ → ℕ → List ℕ
edge_line names child above number = concat (name_at names child ∷ codes " " ∷ name_at names above ∷ codes " "
    ∷ decimal number ∷ codes "\n" ∷ [])

-- The lower ends of the edges of a tree over the terminals: all terminals but the root.
abbrev pub is_child : Net → RouterSet
is_child net router = is_terminal net router && not (router == root_of net)

-- The same as a list, in number order.
abbrev pub children_of : Net → List ℕ
children_of net = filter (is_child net) (range_with_len 0 net.routers)

-- The line of the edge that leads up from a router, with its width.
abbrev pub child_line : List (List ℕ) → TreeView → ℕ → List ℕ
child_line names tree child = edge_line names child (up_of tree child) (width_of tree child)

-- The tree: for each terminal but the root, the router above it and the width of the edge between the two.
unfoldable pub tree_text : ℕ → SheetView → TreeView → List ℕ
tree_text version sheet tree = head_text version (codes "TREE") (terminal_count tree.net - 1)
    ++ concat (map (child_line sheet.names tree) (children_of tree.net))

-- The line of a commit: its router, the router above it by then, and what the cut between the two costs.
abbrev pub commit_line : List (List ℕ) → Entry → List ℕ
commit_line names entry = edge_line names entry.router entry.neighbour entry.value

-- The run: its commits, the oldest first.
unfoldable pub run_text : ℕ → SheetView → TreeView → List ℕ
run_text version sheet tree = head_text version (codes "RUN") (length tree.history)
    ++ concat (map (commit_line sheet.names) tree.history)

-- A path: the edges above its lower ends, in their order.
unfoldable pub path_text : ℕ → SheetView → TreeView → List ℕ → List ℕ
path_text version sheet tree children = head_text version (codes "PATH") (length children)
    ++ concat (map (child_line sheet.names tree) children)

-- The lines of a tree,
unfoldable pub tree_lines : ℕ → SheetView → TreeView → List (List ℕ)
tree_lines version sheet tree = head_text version (codes "TREE") (terminal_count tree.net - 1)
    ∷ map (child_line sheet.names tree) (children_of tree.net)

-- of a run,
unfoldable pub run_lines : ℕ → SheetView → TreeView → List (List ℕ)
run_lines version sheet tree = head_text version (codes "RUN") (length tree.history)
    ∷ map (commit_line sheet.names) tree.history

-- and of a path.
unfoldable pub path_lines : ℕ → SheetView → TreeView → List ℕ → List (List ℕ)
path_lines version sheet tree children = head_text version (codes "PATH") (length children)
    ∷ map (child_line sheet.names tree) children
