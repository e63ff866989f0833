use Rattle.std.proofs.Common.{ap, sym, ◌∙◌}
use Rattle.network_text.specs.Sheets.{SheetView}
use Rattle.network_text.proofs.Finding.{number_of-no_name, number_of-found}
use Rattle.network_text.proofs.sheet.Sheet.number_of.Goals as goal

pub returns-in_err-name : goal.returns-in_err-name
returns-in_err-name c =
    let names = ap (λ (v : SheetView). v.names) c.self.view_is in
    c.from_residual.ensures
    ∙ sym (number_of-no_name c.args.self.now.names c.args.name.now (rw names at c.self.invariant.sheet.named)
    c.in_err-name.ensures.none)

pub returns-in_err-number : goal.returns-in_err-number
returns-in_err-number c =
    c.from_residual-in_err-number.ensures
    ∙ number_of-found _ _ _ _ _ c.in_err-number.ensures.index c.in_ok-name.ensures.some.1
    (ap (λ (v : SheetView). v.names) c.self.view_is)

pub returns : goal.returns
returns c =
    number_of-found _ _ _ _ _ c.in_ok-number.ensures.index c.in_ok-name.ensures.some.1
    (ap (λ (v : SheetView). v.names) c.self.view_is)
