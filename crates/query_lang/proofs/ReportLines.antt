-- The lines of each report: they end with a line feed, hold no other one, and aren't too long.
use Rattle.std.proofs.Common.{◌≡◌, ◌≢◌, ℕ, ◌+◌, ◌-◌, ◌≤◌, List, [], ◌∷◌, ◌++◌, All, Bool, length, map, codes, decimal}
use Rattle.std.proofs.Common.{refl, sym, ap, ◌∙◌, arith, append_assoc, length-append, slice_index_or, IsTrue}
use Rattle.std.proofs.lemmas.List.{length-map}
use Rattle.std.proofs.lemmas.List.Elements.{All-append, All-cons, All-map, All-nil, All-weaker}
use Rattle.std.proofs.lemmas.List.Folds.{concat-append}
use Rattle.std.specs.List.{AllByRecursion, concat}
use Rattle.cut_model.specs.Terminals.{terminal_count}
use Rattle.cut_model.specs.declared.network.Link.{Link}
use Rattle.network_text.specs.Sheets.{IsSheet, SheetView}
use Rattle.network_text.specs.Writing.{link_text, name_at, router_text, sheet_text}
use Rattle.text_forms.specs.Names.{is_name}
use Rattle.query_lang.specs.Found.{found_lines}
use Rattle.query_lang.specs.Replies.{cut_head, cut_text, head_text, net_lines, net_text, side_names}
use Rattle.network_text.specs.Writing.{sheet_lines, text_lines}
use Rattle.query_lang.specs.Reports.{IsReport, TellsReport}
use Rattle.query_lang.specs.Trees.{child_line, children_of, commit_line, edge_line, path_lines, path_text, run_lines}
use Rattle.query_lang.specs.Trees.{run_text}
use Rattle.query_lang.specs.Trees.{tree_lines, tree_text}
use Rattle.query_lang.specs.declared.found.Found.{Found}
use Rattle.query_lang.specs.declared.found.Found.TheVariants as finds
use Rattle.query_lang.specs.declared.request.Request.{Request}
use Rattle.query_lang.proofs.Feeds.{NoFeed-from_test, concat_clean, decimal_clean, fed_pieces, name_at_clean}
use Rattle.query_lang.proofs.Feeds.{name_clean}
use Rattle.query_lang.proofs.Feeds.{side_names_clean}
use Rattle.query_lang.proofs.Lengths.{length-cut_line, length-edge_line, length-link_text, length-router_text}
use Rattle.query_lang.proofs.Lengths.{length-short_head}
use Rattle.reply_lines.proofs.Known.{IsFed, lines_in-concat}
use Rattle.reply_lines.specs.declared.run.TheConstants.{MOST_REPLY_LINE_BYTES}
use Rattle.text_forms.specs.Lines.{NoFeed}
use Rattle.tree_state.specs.Views.{TreeView, up_of, width_of}

-- A line of a reply.
pub record IsReplyLine (line : List ℕ) : Type 0 where
  pub fed : IsFed line
  pub short : length line ≤ MOST_REPLY_LINE_BYTES

-- The first line of a reply of several.
head_line : (version lines : ℕ) (word : List ℕ) → NoFeed word → length word ≤ 8
    → IsReplyLine (head_text version word lines)
head_line version lines word clean short =
    let at = NoFeed-from_test (codes "@") refl in
    let space = NoFeed-from_test (codes " ") refl in
    let behind : AllByRecursion NoFeed (word ∷ codes " " ∷ decimal lines ∷ []) =
    (clean, (space, (decimal_clean lines, tt))) in
    let pieces = codes "@" ∷ decimal version ∷ codes " " ∷ word ∷ codes " " ∷ decimal lines ∷ [] in
    let small = length-short_head version lines word short in
    record {
      fed = fed_pieces pieces (at, (decimal_clean version, (space, behind)));
      short = omega (arith, small);
    }

-- Names and a number with a space before each but the first one.
ends_clean : (first second : List ℕ) (number : ℕ) → NoFeed first → NoFeed second
    → AllByRecursion NoFeed (first ∷ codes " " ∷ second ∷ codes " " ∷ decimal number ∷ [])
ends_clean first second number a b =
    let space = NoFeed-from_test (codes " ") refl in (a, (space, (b, (space, (decimal_clean number, tt)))))

-- The line of an edge.
edge_is_line : (names : List (List ℕ)) (child above number : ℕ) → All (λ name. IsTrue (is_name name)) names
    → IsReplyLine (edge_line names child above number)
edge_is_line names child above number named =
    let a = name_at names child in
    let b = name_at names above in
    let clean = ends_clean a b number (name_at_clean names child named) (name_at_clean names above named) in
    let small = length-edge_line names child above number named in
    record {
      fed = fed_pieces (a ∷ codes " " ∷ b ∷ codes " " ∷ decimal number ∷ []) clean;
      short = omega (arith, small);
    }

-- The line of a router.
router_is_line : (name : List ℕ) → IsTrue (is_name name) → IsReplyLine (router_text name)
router_is_line name named =
    let small = length-router_text name named in
    let word = NoFeed-from_test (codes "router ") refl in
    record {
      fed = fed_pieces (codes "router " ∷ name ∷ []) (word, (name_clean name named, tt));
      short = omega (arith, small);
    }

-- The line of a link.
link_is_line : (names : List (List ℕ)) (link : Link) → All (λ name. IsTrue (is_name name)) names
    → link.cap ≤ 1000000000000 → IsReplyLine (link_text names link)
link_is_line names link named low =
    let a = name_at names link.a in
    let b = name_at names link.b in
    let clean = ends_clean a b link.cap (name_at_clean names link.a named) (name_at_clean names link.b named) in
    let small = length-link_text names link named low in
    let word = NoFeed-from_test (codes "link ") refl in
    record {
      fed = fed_pieces (codes "link " ∷ a ∷ codes " " ∷ b ∷ codes " " ∷ decimal link.cap ∷ []) (word, clean);
      short = omega (arith, small);
    }

-- The line that tells a cut.
cut_is_line : (version value : ℕ) (word : List ℕ) (sheet : SheetView) (side : List Bool) → NoFeed word
    → length word ≤ 8 → IsSheet sheet.names sheet.net → IsReplyLine (cut_text version word value sheet.names side)
unfolding cut_text
cut_is_line version value word sheet side clean short is =
    let at = NoFeed-from_test (codes "@") refl in
    let space = NoFeed-from_test (codes " ") refl in
    let names = side_names sheet.names side in
    let behind : AllByRecursion NoFeed (codes " " ∷ decimal value ∷ codes " side" ∷ []) =
    (space, (decimal_clean value, (NoFeed-from_test (codes " side") refl, tt))) in
    let pieces = codes "@" ∷ decimal version ∷ codes " " ∷ word ∷ codes " " ∷ decimal value ∷ codes " side" ∷ [] in
    let head = concat_clean pieces (at, (decimal_clean version, (space, (clean, behind)))) in
    let named = side_names_clean sheet.names side is.named in
    record {
      fed = record {
        front = cut_head version word value ++ names;
        clean = All-append (λ b. b ≢ 10) (cut_head version word value) names head named;
        is = sym (append_assoc (cut_head version word value) names (10 ∷ []));
      };
      short = length-cut_line version value word sheet.names sheet.net side short is;
    }

-- A first line and the lines of edges.
edges_are_lines : {X : Type 0} (head : List ℕ) (line : X → List ℕ) (xs : List X) → IsReplyLine head
    → ((x : X) → IsReplyLine (line x)) → All IsReplyLine (head ∷ map line xs)
edges_are_lines head line xs first each =
    All-cons IsReplyLine head (map line xs) first
    (All-map IsReplyLine line xs (λ k d within. each (slice_index_or xs k d)))

-- The lines of the reply to NET.
net_are_lines : (version : ℕ) (sheet : SheetView) → IsSheet sheet.names sheet.net
    → All IsReplyLine (net_lines version sheet)
unfolding net_lines
net_are_lines version sheet is =
    let names = sheet.names in
    let links = sheet.net.links in
    let word = NoFeed-from_test (codes "NET") refl in
    let first = head_line version (sheet_lines sheet) (codes "NET") word (omega arith) in
    let end : IsReplyLine (codes "END\n") = record {
      fed = record { front = codes "END"; clean = NoFeed-from_test (codes "END") refl; is = refl };
      short = omega arith;
    } in
    let routers = All-map IsReplyLine router_text names
    (λ k d within. router_is_line (slice_index_or names k d) (is.named k d within)) in
    let lines = All-map IsReplyLine (link_text names) links
    (λ k d within. link_is_line names (slice_index_or links k d) is.named (is.limits.within k d within).cap) in
    let behind = All-append IsReplyLine (map (link_text names) links) (codes "END\n" ∷ []) lines
    (All-cons IsReplyLine (codes "END\n") [] end (All-nil IsReplyLine)) in
    All-cons IsReplyLine (head_text version (codes "NET") (sheet_lines sheet)) (text_lines sheet) first
    (All-append IsReplyLine (map router_text names) (map (link_text names) links ++ codes "END\n" ∷ []) routers behind)

-- Whatever was found, its lines are lines of a reply.
pub found_are_lines : (version : ℕ) (sheet : SheetView) (tree : TreeView) (found : Found)
    → IsSheet sheet.names sheet.net → All IsReplyLine (found_lines version sheet tree found)
unfolding tree_lines run_lines path_lines
found_are_lines version sheet tree (finds.Cut cut) is =
    let text = cut_text version (codes "CUT") cut.value sheet.names cut.side in
    All-cons IsReplyLine text [] (cut_is_line version cut.value (codes "CUT") sheet cut.side
    (NoFeed-from_test (codes "CUT") refl) (omega arith) is) (All-nil IsReplyLine)
found_are_lines version sheet tree (finds.Path children) is =
    edges_are_lines (head_text version (codes "PATH") (length children.now)) (child_line sheet.names tree) children.now
    (head_line version (length children.now) (codes "PATH") (NoFeed-from_test (codes "PATH") refl) (omega arith))
    (λ child. edge_is_line sheet.names child (up_of tree child) (width_of tree child) is.named)
found_are_lines version sheet tree finds.Tree is =
    let edges = terminal_count tree.net - 1 in
    edges_are_lines (head_text version (codes "TREE") edges) (child_line sheet.names tree) (children_of tree.net)
    (head_line version edges (codes "TREE") (NoFeed-from_test (codes "TREE") refl) (omega arith))
    (λ child. edge_is_line sheet.names child (up_of tree child) (width_of tree child) is.named)
found_are_lines version sheet tree finds.Run is =
    edges_are_lines (head_text version (codes "RUN") (length tree.history)) (commit_line sheet.names) tree.history
    (head_line version (length tree.history) (codes "RUN") (NoFeed-from_test (codes "RUN") refl) (omega arith))
    (λ entry. edge_is_line sheet.names entry.router entry.neighbour entry.value is.named)
found_are_lines version sheet tree finds.Net is = net_are_lines version sheet is
found_are_lines version sheet tree (finds.Weakest cut) is =
    let text = cut_text version (codes "WEAKEST") cut.value sheet.names cut.side in
    All-cons IsReplyLine text [] (cut_is_line version cut.value (codes "WEAKEST") sheet cut.side
    (NoFeed-from_test (codes "WEAKEST") refl) (omega arith) is) (All-nil IsReplyLine)

-- Where the text of these lines is a report, they tell it.
pub tells_found : (version : ℕ) (sheet : SheetView) (tree : TreeView) (request : Request) (found : Found)
    → IsSheet sheet.names sheet.net
    → IsReport version sheet tree request (concat (found_lines version sheet tree found))
    → TellsReport version sheet tree request (found_lines version sheet tree found)
tells_found version sheet tree request found is report =
    let lines = found_lines version sheet tree found in
    let all = found_are_lines version sheet tree found is in
    let fed = All-weaker IsReplyLine IsFed (λ line whole. whole.fed) lines all in
    record { text = concat lines; report = report; lines_are = sym (lines_in-concat lines fed); whole = refl }

-- The lines of a tree are its text,
pub concat-tree_lines : (version : ℕ) (sheet : SheetView) (tree : TreeView)
    → concat (tree_lines version sheet tree) ≡ tree_text version sheet tree
unfolding tree_lines tree_text
concat-tree_lines version sheet tree = refl

-- those of a run,
pub concat-run_lines : (version : ℕ) (sheet : SheetView) (tree : TreeView)
    → concat (run_lines version sheet tree) ≡ run_text version sheet tree
unfolding run_lines run_text
concat-run_lines version sheet tree = refl

-- of a path
pub concat-path_lines : (version : ℕ) (sheet : SheetView) (tree : TreeView) (children : List ℕ)
    → concat (path_lines version sheet tree children) ≡ path_text version sheet tree children
unfolding path_lines path_text
concat-path_lines version sheet tree children = refl

-- and of a network, too.
pub concat-net_lines : (version : ℕ) (sheet : SheetView)
    → concat (net_lines version sheet) ≡ net_text version sheet
unfolding net_lines net_text sheet_text
concat-net_lines version sheet =
    let names = sheet.names in
    let lines = map (link_text names) sheet.net.links in
    let end = codes "END\n" ∷ [] in
    ap (λ text. head_text version (codes "NET") (sheet_lines sheet) ++ text)
    (concat-append (map router_text names) (lines ++ end)
    ∙ ap (λ text. concat (map router_text names) ++ text) (concat-append lines end))

-- A path has a line for each edge, and the first,
pub length-path_lines : (version : ℕ) (sheet : SheetView) (tree : TreeView) (children : List ℕ)
    → length (path_lines version sheet tree children) ≡ length children + 1
unfolding path_lines
length-path_lines version sheet tree children = omega (arith, length-map children (child_line sheet.names tree))

-- a run one for each commit,
pub length-run_lines : (version : ℕ) (sheet : SheetView) (tree : TreeView)
    → length (run_lines version sheet tree) ≡ length tree.history + 1
unfolding run_lines
length-run_lines version sheet tree = omega (arith, length-map tree.history (commit_line sheet.names))

-- a tree one for each edge,
pub length-tree_lines : (version : ℕ) (sheet : SheetView) (tree : TreeView)
    → length (tree_lines version sheet tree) ≡ length (children_of tree.net) + 1
unfolding tree_lines
length-tree_lines version sheet tree = omega (arith, length-map (children_of tree.net) (child_line sheet.names tree))

-- and a network those of its text.
pub length-net_lines : (version : ℕ) (sheet : SheetView) → length sheet.names ≡ sheet.net.routers
    → length (net_lines version sheet) ≡ sheet_lines sheet + 1
unfolding net_lines
length-net_lines version sheet numbered =
    let links = map (link_text sheet.names) sheet.net.links in
    let routers = map router_text sheet.names in
    let end = codes "END\n" ∷ [] in
    omega (
      arith,
      numbered,
      length-append routers (links ++ end),
      length-append links end,
      length-map sheet.names router_text,
      length-map sheet.net.links (link_text sheet.names),
    )
