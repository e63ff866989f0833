-- What is written as the certificate of a cut tree is accepted, whichever flows it tells.
use Rattle.std.proofs.Common.{◌≡◌, ℕ, ◌-◌, List, [], ◌++◌, Bool, length, sym, ap, ◌∙◌, arith}
use Rattle.std.proofs.Common.{append_assoc, subst}
use Rattle.std.specs.List.{concat}
use Rattle.cut_model.specs.Net.{Net}
use Rattle.cut_model.proofs.Terminals.{root-lt}
use Rattle.network_text.specs.Sheets.{IsSheet, SheetView}
use Rattle.tree_state.specs.Views.{HoldsCutTree, TreeView, up_of, width_of}
use Rattle.certifier.specs.Accepting.{AcceptsTree, WrittenIsAccepted}
use Rattle.certifier.specs.Blocks.{Carried, certificate_layout}
use Rattle.certifier.specs.Certificates.{Title}
use Rattle.certifier.proofs.RereadBlocks.{Given, read-blocks, tree_on}
use Rattle.certifier.proofs.RereadFront.{read-front}
use Rattle.certifier.proofs.RereadLines.{read}
use Rattle.certifier.proofs.RereadTree.{edges_none}
use Rattle.certifier.proofs.Spots.{At, at_first, from_front}

-- All lines of a certificate are taken, behind so many lines that were passed over.
read-layout : (g : Given) (seen : ℕ) (carry : Carried) (text : List ℕ)
    → At g.sheet.names (tree_on g.sheet g.history) (certificate_layout g.sheet) 0 carry text
    → AcceptsTree g.sheet (up_of (tree_on g.sheet g.history)) (width_of (tree_on g.sheet g.history))
    (read g.ended seen Title (text ++ g.more))
read-layout g seen carry text at =
    let layout = certificate_layout g.sheet in
    let behind = from_front g.sheet.names (tree_on g.sheet g.history) layout (length layout.front) 0 carry text
    (omega arith) at in
    let front = read-front g.ended seen g.sheet (behind.rest ++ g.more) g.shows.is in
    let text_is : text ++ g.more ≡ concat layout.front ++ (behind.rest ++ g.more) =
    ap (λ t. t ++ g.more) behind.text_is ∙ append_assoc (concat layout.front) behind.rest g.more in
    let some = root-lt g.sheet.net g.shows.is.limits in
    rw (ap (read g.ended seen Title) text_is ∙ front.2)
    (read-blocks g (g.sheet.net.routers - 1) [] front.0 (length layout.front) behind.carry behind.rest edges_none
    (omega arith) front.1 (omega arith) behind.at)

-- The same, whatever stands behind it, of the tree of a network that is that of the sheet.
pub accepted_behind : (seen : ℕ) (sheet : SheetView) (tree : TreeView) (text more : List ℕ) (ended : Bool)
    → IsSheet sheet.names sheet.net → tree.net ≡ sheet.net → HoldsCutTree tree
    → (carry : Carried) × At sheet.names tree (certificate_layout sheet) 0 carry text
    → AcceptsTree sheet (up_of tree) (width_of tree) (read ended seen Title (text ++ more))
accepted_behind seen sheet tree text more ended is same =
    let Claim : TreeView → Type 0 = λ t. HoldsCutTree t
    → (carry : Carried) × At sheet.names t (certificate_layout sheet) 0 carry text
    → AcceptsTree sheet (up_of t) (width_of t) (read ended seen Title (text ++ more)) in
    subst Claim (ap (λ (net : Net). record { net = net; history = tree.history }) (sym same))
    (λ holds at.
    let g : Given = record {
      sheet = sheet;
      history = tree.history;
      shows = record { is = is; tree = holds };
      ended = ended;
      more = more;
    } in
    read-layout g seen at.0 text at.1)

-- What is written of the tree of a sheet is accepted.
pub written_is_accepted : WrittenIsAccepted
written_is_accepted sheet tree text more ended is same holds laid =
    accepted_behind 0 sheet tree text more ended is same holds
    (laid.carry, at_first sheet.names tree (certificate_layout sheet) laid)
