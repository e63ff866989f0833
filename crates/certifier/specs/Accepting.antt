-- What the writers write is accepted, and tells flows.
use Rattle.std.specs.Prelude.{◌≡◌, ◌≢◌, ℕ, ◌<◌, ◌≤◌, ℤ, List, [], ◌∷◌, ◌++◌, Bool, true, codes, length, map}
use Rattle.std.specs.List.{concat}
use Rattle.cut_model.specs.Flow.{IsFlow}
use Rattle.cut_model.specs.Terminals.{root_of}
use Rattle.network_text.specs.Sheets.{IsSheet, SheetView}
use Rattle.text_forms.specs.Lines.{NoFeed}
use Rattle.text_forms.specs.declared.lines.TheConstants.{MOST_LINE_BYTES}
use Rattle.tree_state.specs.Tables.{Table}
use Rattle.tree_state.specs.Views.{HoldsCutTree, TreeView, up_of, width_of}
use Rattle.certifier.specs.Blocks.{IsLaidOut, certificate_layout, edge_text, headed, on_text, witness_layout}
use Rattle.certifier.specs.Certificates.{Verdict, Accepted, verdict_on}
use Rattle.certifier.specs.Forms.{is_reply}
use Rattle.certifier.specs.Trees.{Told, up_in, width_in}

-- The verdict accepts a tree over the network of a sheet, whose root is that of the network: above each router, and
-- with the width of each edge, as these tables say.
pub record AcceptsTree (sheet : SheetView) (up width : Table) (verdict : Verdict) : Type 0 where
  pub told : Told
  pub is : verdict ≡ Accepted told
  pub sheet_is : told.sheet ≡ sheet
  pub root_is : told.root ≡ root_of sheet.net
  pub ups : (r : ℕ) → r < sheet.net.routers → up_in told r ≡ up r
  pub widths : (r : ℕ) → r < sheet.net.routers → r ≢ root_of sheet.net → width_in told r ≡ width r

-- The first line of a reply, without its line feed.
pub record IsHead (head : List ℕ) : Type 0 where
  pub reply : is_reply head ≡ true
  pub short : length head ≤ MOST_LINE_BYTES
  pub clean : NoFeed head

-- What is written as the certificate of a cut tree is accepted, whichever flows it tells, and whatever stands behind
-- it.
abbrev pub WrittenIsAccepted : Type 0
WrittenIsAccepted =
    (sheet : SheetView) (tree : TreeView) (text more : List ℕ) (ended : Bool) → IsSheet sheet.names sheet.net
    → tree.net ≡ sheet.net → HoldsCutTree tree → IsLaidOut sheet.names tree (certificate_layout sheet) text
    → AcceptsTree sheet (up_of tree) (width_of tree) (verdict_on ended (text ++ more))

-- So is a reply that tells it, with its first line, and whatever stands behind the reply.
abbrev pub ReplyIsAccepted : Type 0
ReplyIsAccepted =
    (sheet : SheetView) (tree : TreeView) (head text more : List ℕ) (ended : Bool) → IsHead head
    → IsSheet sheet.names sheet.net → tree.net ≡ sheet.net → HoldsCutTree tree
    → IsLaidOut sheet.names tree (headed (head ++ 10 ∷ []) (certificate_layout sheet)) text
    → AcceptsTree sheet (up_of tree) (width_of tree) (verdict_on ended (text ++ more))

-- For each of some routers the line of its edge and then the values of a flow.
abbrev pub blocks_text : List ℕ → List (List ℕ) → TreeView → List ℕ → List (List ℤ) → List ℕ
blocks_text word names tree [] flows = []
blocks_text word names tree (child ∷ children) [] = []
blocks_text word names tree (child ∷ children) (flow ∷ flows) =
    edge_text word names tree child ++ (concat (map on_text flow) ++ blocks_text word names tree children flows)

-- A flow for each of them: from it to the router above it, as great as the edge between the two is wide.
abbrev pub AreFlows : TreeView → List ℕ → List (List ℤ) → Type 0
AreFlows tree [] [] = Unit {0}
AreFlows tree [] (flow ∷ flows) = ⊥
AreFlows tree (child ∷ children) [] = ⊥
AreFlows tree (child ∷ children) (flow ∷ flows) =
    IsFlow tree.net child (up_of tree child) flow (width_of tree child) × AreFlows tree children flows

-- The text tells a flow for each of some routers.
pub record TellsFlows (names : List (List ℕ)) (tree : TreeView) (children : List ℕ) (text : List ℕ) : Type 0 where
  pub flows : List (List ℤ)
  pub are : AreFlows tree children flows
  pub text_is : text ≡ blocks_text (codes "flow") names tree children flows

-- What WITNESS tells behind its first line are flows.
abbrev pub WitnessTellsFlows : Type 0
WitnessTellsFlows =
    (names : List (List ℕ)) (tree : TreeView) (children text : List ℕ)
    → IsLaidOut names tree (witness_layout children) text → TellsFlows names tree children text
