use Rattle.std.proofs.Common.{◌<◌, ◌-◌, ◌∙◌, ap, arith, codes, length, subst, sym}
use Rattle.cut_model.specs.Net.{IsInLimits}
use Rattle.cut_model.specs.Terminals.{terminal_count}
use Rattle.query_lang.specs.Replies.{head_text}
use Rattle.query_lang.specs.Trees.{child_line, children_of, tree_lines}
use Rattle.query_lang.proofs.Edges.{length-children_of_terminals}
use Rattle.query_lang.proofs.Places.{place_of}
use Rattle.wires.proofs.Puts.{puts_same}
use Rattle.query_lang.proofs.trees.write_tree_line.Goals as goal

pub overflow_cast-place : goal.overflow_cast-place
overflow_cast-place g c =
    let net = c.args.subject.now.finished.now.tree.net in
    let limits = subst IsInLimits (c.deref.ensures ∙ c.net-net.ensures.value) c.routers.ensures.limits in
    let all = length-children_of_terminals net limits in
    omega (arith, all, c.requires.place, c.commits-edges.ensures.all, c.commits-edges.type_inv)

pub returns-clause-puts : goal.returns-clause-puts
unfolding tree_lines
returns-clause-puts g c =
    let tree = c.args.subject.now.finished.now.tree in
    let children = children_of tree.net in
    let line = child_line c.args.subject.now.sheet.now.names tree in
    let place = c.args.place in
    let within : place - 1 < length children = omega (arith, c.requires.place, c.if-place-eq0.false) in
    let at = place_of (head_text c.args.version (codes "TREE") (terminal_count tree.net - 1)) line children place 0
    c.if-place-eq0.false within in
    let same = ap children_of (c.deref-2.ensures ∙ c.net-net.ensures.value) in
    puts_same (sym (at ∙ ap line (sym (rw same at c.find_child-child.ensures.child)))) c.write_child_line.ensures.puts
