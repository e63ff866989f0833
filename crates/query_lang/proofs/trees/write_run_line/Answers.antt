use Rattle.std.proofs.Common.{◌-◌, ◌∙◌, ap, arith, codes, length, sym}
use Rattle.std.proofs.lemmas.Option.{get_or_from_slice_get, slice_get_within}
use Rattle.query_lang.specs.Replies.{head_text}
use Rattle.query_lang.specs.Trees.{commit_line, run_lines}
use Rattle.query_lang.proofs.Places.{place_of}
use Rattle.wires.proofs.Puts.{puts_same}
use Rattle.query_lang.proofs.trees.write_run_line.Goals as goal

pub overflow_cast-place : goal.overflow_cast-place
overflow_cast-place g c =
    omega (arith, c.requires.place, c.commits-commits.ensures.value, c.commits-commits.type_inv)

pub returns : goal.returns
unfolding run_lines
returns g c =
    let history = c.args.subject.now.finished.now.tree.history in
    let line = commit_line c.args.subject.now.sheet.now.names in
    let place = c.args.place in
    let entry = c.named_entry-entry.result.now in
    let is = c.named_entry-entry.ensures.value in
    let here = get_or_from_slice_get history (place - 1) entry entry is in
    let within = slice_get_within history (place - 1) entry is in
    let at = place_of (head_text c.args.version (codes "RUN") (length history)) line history place entry
    c.if-place-eq0.false within in
    record { puts = puts_same (sym (at ∙ ap line here)) c.write_edge.ensures.puts }
