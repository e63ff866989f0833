use Rattle.std.proofs.Common.{◌≡◌, ◌∙◌, ap, Some}
use Rattle.cut_model.specs.Net.{Net}
use Rattle.network_text.specs.Sheets.{SheetView}
use Rattle.query_lang.specs.Replies.{loaded_text}
use Rattle.session.proofs.state.State.tell_loaded.Goals as goal
use Rattle.tree_versions.specs.Records.{RecordView}

pub returns-clause-reply : goal.returns-clause-reply
returns-clause-reply g c = λ made is.
    let some : Some c.record_at-made.result.now ≡ Some made = c.record_at-made.ensures ∙ is in
    let same : c.record_at-made.result.now ≡ made = cc in
    c.loaded.ensures.run
    ∙ ap (λ (net : Net). loaded_text c.args.version net)
    (c.deref.ensures ∙ c.net.ensures.value ∙ ap (λ (s : SheetView). s.net) c.sheet.ensures
    ∙ ap (λ (r : RecordView). r.sheet.net) same)
