use Rattle.std.proofs.Common.{Ok, arith, drop}
use Rattle.network_text.specs.NameTexts.{blank_names_between}
use Rattle.query_lang.specs.Replies.{side_names}
use Rattle.query_lang.proofs.NameTexts.{side_names-drop_all, side_names-run}
use Rattle.wires.proofs.Puts.{puts_none, puts_then, puts_failed}
use Rattle.query_lang.proofs.cuts.write_names.Goals as goal

pub loop-from-preserved : goal.loop-from-preserved
loop-from-preserved g c = λ new result rest.
    let names = c.args.sheet.now.names in
    let side = c.args.side.now in
    let run = c.next_run-run.result in
    let left = side_names-run names side c.loop-from.from run c.requires c.next_run-run.ensures.run in
    let put = blank_names_between names run.begin run.end in
    let behind = side_names (drop run.end names) (drop run.end side) in
    c.loop-from.invariant new result (rw left (puts_then put behind c.in_ok-write_run.ensures.puts rest))

pub returns : goal.returns
returns g c =
    let none = side_names-drop_all c.args.sheet.now.names c.args.side.now c.loop-from.from (omega arith) in
    record { puts = c.loop-from.invariant c.loop-from.sink (Ok tt) (rw none (puts_none _ _)) }

pub returns-in_err-write_run : goal.returns-in_err-write_run
returns-in_err-write_run g c =
    let names = c.args.sheet.now.names in
    let side = c.args.side.now in
    let run = c.next_run-run.result in
    let left = side_names-run names side c.loop-from.from run c.requires c.next_run-run.ensures.run in
    let put = blank_names_between names run.begin run.end in
    let behind = side_names (drop run.end names) (drop run.end side) in
    let end = c.from_residual in
    let failed = puts_failed put behind end.result end.ensures.0 c.in_err-write_run.ensures.puts in
    record { puts = c.loop-from.invariant c.write_run.new.sink end.result (rw left failed) }
