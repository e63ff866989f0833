use Rattle.std.proofs.Common.{[], ◌∷◌, codes, subst, sym}
use Rattle.std.proofs.lemmas.List.{append-nil}
use Rattle.query_lang.specs.Replies.{cut_text}
use Rattle.query_lang.specs.Reports.{IsReport, TellsReport}
use Rattle.query_lang.specs.declared.found.Found.TheVariants as finds
use Rattle.query_lang.specs.declared.request.Request.{Request}
use Rattle.query_lang.specs.declared.request.Request.TheVariants as asks
use Rattle.query_lang.specs.Found.{found_lines}
use Rattle.query_lang.proofs.ReportLines.{concat-net_lines, concat-path_lines, concat-run_lines, concat-tree_lines}
use Rattle.query_lang.proofs.ReportLines.{tells_found}
use Rattle.query_lang.proofs.found.find_reply.Goals as goal

pub returns-in-Cut-clause-report : goal.returns-in-Cut-clause-report
returns-in-Cut-clause-report c = λ version.
    let sheet = c.args.subject.now.sheet.now in
    let tree = c.args.subject.now.finished.now.tree in
    let cut = c.find_least_cut.result in
    let text = cut_text version (codes "CUT") cut.value sheet.names cut.side in
    let report = subst (IsReport version sheet tree (asks.Cut c.in-Cut.a c.in-Cut.b)) (sym (append-nil text))
    (c.find_least_cut.ensures.report version) in
    subst (λ (request : Request). TellsReport version sheet tree request (text ∷ [])) (sym c.in-Cut.is)
    (tells_found version sheet tree (asks.Cut c.in-Cut.a c.in-Cut.b) (finds.Cut cut) c.net.ensures.sheet report)

pub returns-in-Path-clause-report : goal.returns-in-Path-clause-report
returns-in-Path-clause-report c = λ version.
    let sheet = c.args.subject.now.sheet.now in
    let tree = c.args.subject.now.finished.now.tree in
    let path = c.find_path.result in
    let asked = asks.Path c.in-Path.a c.in-Path.b in
    let report = subst (IsReport version sheet tree asked) (sym (concat-path_lines version sheet tree path.now))
    (c.find_path.ensures.report version) in
    subst (λ (request : Request). TellsReport version sheet tree request
    (found_lines version sheet tree (finds.Path path))) (sym c.in-Path.is)
    (tells_found version sheet tree asked (finds.Path path) c.net.ensures.sheet report)

pub returns-in-Tree-clause-report : goal.returns-in-Tree-clause-report
returns-in-Tree-clause-report c = λ version.
    let sheet = c.args.subject.now.sheet.now in
    let tree = c.args.subject.now.finished.now.tree in
    subst (λ (request : Request). TellsReport version sheet tree request (found_lines version sheet tree finds.Tree))
    (sym c.in-Tree.is)
    (tells_found version sheet tree asks.Tree finds.Tree c.net.ensures.sheet (concat-tree_lines version sheet tree))

pub returns-in-Run-clause-report : goal.returns-in-Run-clause-report
returns-in-Run-clause-report c = λ version.
    let sheet = c.args.subject.now.sheet.now in
    let tree = c.args.subject.now.finished.now.tree in
    subst (λ (request : Request). TellsReport version sheet tree request (found_lines version sheet tree finds.Run))
    (sym c.in-Run.is)
    (tells_found version sheet tree asks.Run finds.Run c.net.ensures.sheet (concat-run_lines version sheet tree))

pub returns-in-Net-clause-report : goal.returns-in-Net-clause-report
returns-in-Net-clause-report c = λ version.
    let sheet = c.args.subject.now.sheet.now in
    let tree = c.args.subject.now.finished.now.tree in
    subst (λ (request : Request). TellsReport version sheet tree request (found_lines version sheet tree finds.Net))
    (sym c.in-Net.is)
    (tells_found version sheet tree asks.Net finds.Net c.net.ensures.sheet (concat-net_lines version sheet))

pub returns-in-Weakest-clause-report : goal.returns-in-Weakest-clause-report
returns-in-Weakest-clause-report c = λ version.
    let sheet = c.args.subject.now.sheet.now in
    let tree = c.args.subject.now.finished.now.tree in
    let cut = c.find_weakest.result in
    let text = cut_text version (codes "WEAKEST") cut.value sheet.names cut.side in
    let report = subst (IsReport version sheet tree asks.Weakest) (sym (append-nil text))
    (c.find_weakest.ensures.report version) in
    subst (λ (request : Request). TellsReport version sheet tree request (text ∷ [])) (sym c.in-Weakest.is)
    (tells_found version sheet tree asks.Weakest (finds.Weakest cut) c.net.ensures.sheet report)
