use Rattle.std.proofs.Common.{[], Some, ap, arith, get_or, length, sym, ◌∙◌}
use Rattle.std.proofs.lemmas.Bool.{eqb-true}
use Rattle.std.proofs.lemmas.Option.{slice_get-get_or}
use Rattle.network_text.proofs.NameTexts.{behind_blank, blank_names_between-one}
use Rattle.network_text.proofs.Paddings.{name-short}
use Rattle.network_text.specs.Sheets.{SheetView}
use Rattle.network_text.proofs.sheet.Sheet.name_of.Goals as goal

pub overflow_add-router : goal.overflow_add-router
overflow_add-router c =
    let names = ap (λ (v : SheetView). v.names) c.self.view_is in
    let few = c.self.invariant.sheet.limits.few_routers in
    let numbered = c.self.invariant.sheet.numbered in
    let below = rw (← names) at c.requires in omega (arith, few, numbered, below)

pub prove-unreachable-requires : goal.prove-unreachable-requires
prove-unreachable-requires c =
    let one = blank_names_between-one c.args.self.now.names c.args.router c.requires in
    let none = eqb-true _ _ (sym c.is_empty.ensures ∙ c.if-prove.true) in
    absurd (omega (arith, none, ap length (c.names_between-name.ensures.value ∙ one)))

pub returns-clause-value : goal.returns-clause-value
returns-clause-value c =
    let names = c.args.self.now.names in
    let one = blank_names_between-one names c.args.router c.requires in
    let is = behind_blank _ (get_or names c.args.router []) (c.names_between-name.ensures.value ∙ one) in
    slice_get-get_or names c.args.router [] c.requires ∙ ap Some (sym is)

pub returns-clause-short : goal.returns-clause-short
returns-clause-short c =
    let name = get_or c.args.self.now.names c.args.router [] in
    let one = blank_names_between-one c.args.self.now.names c.args.router c.requires in
    rw (behind_blank _ name (c.names_between-name.ensures.value ∙ one))
    (name-short name (c.names_between-name.ensures.sheet.named c.args.router [] c.requires))
