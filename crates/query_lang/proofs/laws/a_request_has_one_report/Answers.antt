use Rattle.query_lang.proofs.OneReport.{report_once}
use Rattle.query_lang.proofs.laws.a_request_has_one_report.Goals as goal

pub returns : goal.returns
returns c = report_once
