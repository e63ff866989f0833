use Rattle.std.proofs.Common.{arith}
use Rattle.query_lang.specs.Trees.{is_child}
use Rattle.query_lang.proofs.Edges.{number_in-zero}
use Rattle.query_lang.proofs.report.Report.find.Goals as goal

pub invariant_of-result : goal.invariant_of-result
invariant_of-result c = record {
  sheet_is = c.find_reply-found.ensures.sheet;
  same = c.requires.same;
  found_is = c.find_reply-found.ensures.found;
  passed_is = record { within = omega arith; edges_are = number_in-zero (is_child c.args.finished.now.tree.net) };
}
