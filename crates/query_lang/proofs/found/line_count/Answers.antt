use Rattle.std.proofs.Common.{arith, inl, inr, subst, sym}
use Rattle.cut_model.specs.Net.{IsInLimits}
use Rattle.query_lang.proofs.Edges.{length-children_of_terminals}
use Rattle.query_lang.proofs.ReportLines.{length-net_lines, length-path_lines, length-run_lines, length-tree_lines}
use Rattle.query_lang.proofs.found.line_count.Goals as goal

pub returns-in-Path : goal.returns-in-Path
returns-in-Path c = λ version.
    let sheet = c.args.subject.now.sheet.now in
    let tree = c.args.subject.now.finished.now.tree in
    rw c.in-Path.is (omega (arith, length-path_lines version sheet tree c.in-Path.children.now))

pub returns-in-Net : goal.returns-in-Net
returns-in-Net c = λ version.
    let sheet = c.args.subject.now.sheet.now in
    rw c.in-Net.is (omega (arith, c.sheet_line_count.ensures.value, length-net_lines version sheet c.requires.numbered))

pub returns-in-Tree : goal.returns-in-Tree
returns-in-Tree c = λ version.
    let sheet = c.args.subject.now.sheet.now in
    let tree = c.args.subject.now.finished.now.tree in
    let limits = subst IsInLimits (sym c.args.subject.now.same) c.requires.limits in
    let all = length-children_of_terminals tree.net limits in
    elim c.in-Tree.is [
      | inl tells ↦ rw tells
          (omega (arith, all, c.from.ensures, c.commits.ensures.all, length-tree_lines version sheet tree))
      | inr tells ↦ rw tells
          (omega (arith, c.from.ensures, c.commits.ensures.value, length-run_lines version sheet tree))
    ]
