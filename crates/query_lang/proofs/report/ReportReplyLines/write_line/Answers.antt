use Rattle.std.proofs.Common.{List, ℕ, [], All, refl, slice_index_or, subst}
use Rattle.query_lang.proofs.ReportLines.{IsReplyLine, found_are_lines}
use Rattle.wires.specs.Puts.{Puts}
use Rattle.query_lang.proofs.report.ReportReplyLines.write_line.Goals as goal

pub returns-clause-puts : goal.returns-clause-puts
returns-clause-puts g c =
    let lines = c.args.self.now in
    let inside = c.self.inside in
    let all = subst (All IsReplyLine) c.self.view_is (found_are_lines inside.version inside.subject.sheet.now
    inside.subject.finished.now.tree inside.found c.self.invariant.sheet_is) in
    record {
      line = slice_index_or lines c.args.place [];
      is = record { at = refl; kept = refl };
      short = (all c.args.place [] c.requires.within).short;
      puts = subst (λ (ls : List (List ℕ)). Puts g.K.Sink c.args.sink.now c.write_found_line.new.sink
          c.write_found_line.result (slice_index_or ls c.args.place [])) c.self.view_is c.write_found_line.ensures.puts;
    }
