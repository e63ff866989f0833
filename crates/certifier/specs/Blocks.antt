-- Lines that tell flows in blocks, and known lines around them: of a certificate, and of a reply that shows flows.
use Rattle.std.specs.Prelude.{◌≡◌, ℕ, zero, suc, ◌+◌, ◌-◌, ◌*◌, ◌<◌, ◌⊎◌, ℤ}
use Rattle.std.specs.Prelude.{pos, nat_lt, List, [], ◌∷◌, ◌++◌, length, map}
use Rattle.std.specs.Fmt.{signed_decimal}
use Rattle.std.specs.Prelude.{codes, decimal, slice_index, slice_index_or, if◌then◌else◌}
use Rattle.std.specs.List.{concat, range_with_len}
use Rattle.cut_model.specs.Flow.{IsFlow}
use Rattle.cut_model.specs.Net.{Net}
use Rattle.cut_model.specs.Terminals.{root_of}
use Rattle.network_text.specs.Sheets.{SheetView}
use Rattle.network_text.specs.Writing.{name_at, text_lines}
use Rattle.reply_lines.specs.Tails.{KnownLine, Tail}
use Rattle.tree_state.specs.Views.{TreeView, up_of, width_of}

-- What is carried from line to line: a network, and a number on each of its links.
pub record Carried : Type 0 where
  pub net : Net
  pub flow : List ℤ

-- The line of one value of a flow.
abbrev pub on_text : ℤ → List ℕ
on_text value = concat (codes "on " ∷ signed_decimal value ∷ codes "\n" ∷ [])

-- The first line of a block: a word, and the edge above a router with its width.
abbrev pub edge_text : List ℕ → List (List ℕ) → TreeView → ℕ → List ℕ
edge_text word names tree child = concat (word ∷ codes " " ∷ name_at names child ∷ codes " "
    ∷ name_at names (up_of tree child) ∷ codes " " ∷ decimal (width_of tree child) ∷ codes "\n" ∷ [])

-- What is carried is a flow from a router to the one above it, as great as the edge between the two is wide.
pub record CarriesFlow (tree : TreeView) (child : ℕ) (carry : Carried) : Type 0 where
  pub net : carry.net ≡ tree.net
  pub flow : IsFlow tree.net child (up_of tree child) carry.flow (width_of tree child)

-- This may be the line of a place of the block of a router: the first begins any flow of its edge, and the others tell
-- that flow, link by link.
abbrev pub BlockLine : List ℕ → List (List ℕ) → TreeView → ℕ → ℕ → Carried → List ℕ → Carried → Type 0
BlockLine word names tree child zero carry line carry2 =
    (line ≡ edge_text word names tree child) × CarriesFlow tree child carry2
BlockLine word names tree child (suc link) carry line carry2 =
    (line ≡ on_text (slice_index_or carry.flow link (pos 0))) × (carry2 ≡ carry)

-- Known lines, then a block for each of some routers behind a word, then known lines.
pub record Layout : Type 0 where
  pub front : List (List ℕ)
  pub word : List ℕ
  pub children : List ℕ
  pub back : List (List ℕ)

-- How many lines a block has: its first one, and one for each link.
abbrev pub block_size : Net → ℕ
block_size net = length net.links + 1

-- At which place the line of this place of a block stands.
abbrev pub block_place : Net → Layout → ℕ → ℕ → ℕ
block_place net layout block k = length layout.front + (block * block_size net + k)

-- At which place the lines behind the blocks begin.
abbrev pub back_place : Net → Layout → ℕ
back_place net layout = length layout.front + length layout.children * block_size net

-- How many lines there are.
abbrev pub layout_size : Net → Layout → ℕ
layout_size net layout = back_place net layout + length layout.back

-- The place is one of the known lines in front.
pub record InFront (layout : Layout) (place : ℕ) (carry : Carried) (line : List ℕ) (carry2 : Carried) : Type 0 where
  pub within : place < length layout.front
  pub known : KnownLine Carried layout.front place carry line carry2

-- It is one of a block.
pub record InBlock (names : List (List ℕ)) (tree : TreeView) (layout : Layout) (place : ℕ) (carry : Carried)
    (line : List ℕ) (carry2 : Carried) : Type 0 where
  pub block : ℕ
  pub k : ℕ
  pub within : block < length layout.children
  pub of_block : k < block_size tree.net
  pub place_is : place ≡ block_place tree.net layout block k
  pub told : BlockLine layout.word names tree (slice_index layout.children block) k carry line carry2

-- It is one of the known lines behind the blocks.
pub record InBack (net : Net) (layout : Layout) (place : ℕ) (carry : Carried) (line : List ℕ) (carry2 : Carried) :
    Type 0 where
  pub j : ℕ
  pub within : j < length layout.back
  pub place_is : place ≡ back_place net layout + j
  pub known : KnownLine Carried layout.back j carry line carry2

-- This may be the line of a place.
abbrev pub LayoutLine : List (List ℕ) → TreeView → Layout → ℕ → Carried → List ℕ → Carried → Type 0
LayoutLine names tree layout place carry line carry2 =
    InFront layout place carry line carry2
    ⊎ InBlock names tree layout place carry line carry2
    ⊎ InBack tree.net layout place carry line carry2

-- What has to be carried to a place: to the second and each further line of a block, a flow of its edge.
abbrev pub Fits : TreeView → Layout → ℕ → Carried → Type 0
Fits tree layout place carry =
    (block link : ℕ) → block < length layout.children → suc link < block_size tree.net
    → place ≡ block_place tree.net layout block (suc link) → CarriesFlow tree (slice_index layout.children block) carry

-- The text is all of these lines, whatever was carried to the first.
pub record IsLaidOut (names : List (List ℕ)) (tree : TreeView) (layout : Layout) (text : List ℕ) : Type 0 where
  pub carry : Carried
  pub is : Tail Carried (LayoutLine names tree layout) (layout_size tree.net layout) 0 carry text

-- The same lines behind one more.
abbrev pub headed : List ℕ → Layout → Layout
headed line layout = record layout { front = line ∷ layout.front }

-- What WITNESS tells behind its first line: for each edge of a path a flow of its width, from its lower end.
abbrev pub witness_layout : List ℕ → Layout
witness_layout children = record { front = []; word = codes "flow"; children = children; back = [] }

-- The router of this place among all but one, in number order.
abbrev pub router_but : ℕ → ℕ → ℕ
router_but root i = if nat_lt i root then i else i + 1

-- All routers of a network but one, in number order.
abbrev pub routers_but : ℕ → ℕ → List ℕ
routers_but root n = map (router_but root) (range_with_len 0 (n - 1))

-- The line that names the root.
abbrev pub root_text : List (List ℕ) → ℕ → List ℕ
root_text names root = concat (codes "root " ∷ name_at names root ∷ codes "\n" ∷ [])

-- The certificate of a tree: a title, the network, the root, for each other router the edge above it with a flow of
-- its width, and a last line.
abbrev pub certificate_layout : SheetView → Layout
certificate_layout sheet = record {
  front = codes "cut tree 1\n" ∷ (text_lines sheet ++ root_text sheet.names (root_of sheet.net) ∷ []);
  word = codes "edge";
  children = routers_but (root_of sheet.net) sheet.net.routers;
  back = codes "DONE\n" ∷ [];
}
