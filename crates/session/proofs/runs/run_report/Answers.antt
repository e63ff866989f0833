use Rattle.std.proofs.Common.{subst}
use Rattle.network_text.specs.Sheets.{SheetView}
use Rattle.query_lang.specs.Reports.{TellsReport}
use Rattle.session.proofs.Running.{TellsLines, lines_size, report_tells}
use Rattle.session.proofs.runs.run_report.Goals as goal
use Rattle.tree_state.specs.Views.{TreeView}
use Rattle.tree_versions.specs.Records.{tree_of}

pub run_lines-requires-clause-within : goal.run_lines-requires-clause-within
run_lines-requires-clause-within c =
    let made = c.args.made.now in
    let asked = c.args.asked.now in
    let told = subst (λ (s : SheetView). TellsReport asked.version s (tree_of made) asked.request c.find-report.result)
    c.sheet.ensures (subst (λ (t : TreeView). TellsReport asked.version c.sheet.result.now t asked.request
    c.find-report.result) c.finished.ensures.value c.find-report.ensures) in
    lines_size made asked c.find-report.result (record { report = c.requires.report; told = told }) c.args.from
    c.requires.within

pub returns : goal.returns
returns c = λ carry.
    let made = c.args.made.now in
    let asked = c.args.asked.now in
    let lines = c.find-report.result in
    let told = subst (λ (s : SheetView). TellsReport asked.version s (tree_of made) asked.request lines) c.sheet.ensures
    (subst (λ (t : TreeView). TellsReport asked.version c.sheet.result.now t asked.request lines)
    c.finished.ensures.value c.find-report.ensures) in
    let tells : TellsLines made asked lines = record { report = c.requires.report; told = told } in
    report_tells made asked lines tells c.args.from c.run_lines.new.run.rest
    (record { left = c.run_lines.result.left; place = c.run_lines.result.place; carry = tt }) (record {
      leads = c.run_lines.ensures.leads;
      places = c.run_lines.ensures.places;
      some = c.run_lines.ensures.some;
      within = lines_size made asked lines tells c.args.from c.requires.within;
    }) carry
