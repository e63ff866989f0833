use Rattle.std.proofs.Common.{arith}
use Rattle.query_lang.proofs.ReportLines.{length-net_lines, length-path_lines, length-run_lines, length-tree_lines}
use Rattle.query_lang.proofs.found.write_found_line.Goals as goal

pub write_path_line-requires-clause-place : goal.write_path_line-requires-clause-place
write_path_line-requires-clause-place g c =
    let sheet = c.args.subject.now.sheet.now in
    let tree = c.args.subject.now.finished.now.tree in
    let lines = length-path_lines c.args.version sheet tree c.in-Path.children.now in
    omega (arith, rw c.in-Path.is at c.requires.place, lines)

pub write_tree_line-requires-clause-place : goal.write_tree_line-requires-clause-place
write_tree_line-requires-clause-place g c =
    let sheet = c.args.subject.now.sheet.now in
    let tree = c.args.subject.now.finished.now.tree in
    omega (arith, rw c.in-Tree.is at c.requires.place, length-tree_lines c.args.version sheet tree)

pub write_run_line-requires : goal.write_run_line-requires
write_run_line-requires g c =
    let sheet = c.args.subject.now.sheet.now in
    let tree = c.args.subject.now.finished.now.tree in
    record { place = omega (arith, rw c.in-Run.is at c.requires.place, length-run_lines c.args.version sheet tree) }

pub write_net_line-requires : goal.write_net_line-requires
write_net_line-requires g c =
    let sheet = c.args.subject.now.sheet.now in
    let lines = length-net_lines c.args.version sheet c.requires.sheet.numbered in
    record { place = omega (arith, rw c.in-Net.is at c.requires.place, lines) }
