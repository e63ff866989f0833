use Rattle.std.proofs.Common.{ap, arith}
use Rattle.network_text.specs.Sheets.{SheetView}
use Rattle.network_text.proofs.NameTexts.{begins-rise, begins-within, text-between, text-seen}
use Rattle.network_text.proofs.sheet.Sheet.names_between.Goals as goal

pub prove-unreachable-requires : goal.prove-unreachable-requires
prove-unreachable-requires c =
    let names = ap (λ (v : SheetView). v.names) c.self.view_is in
    let is = text-seen c.self.invariant.text names c.as_slice-bytes.ensures.value c.as_slice-begins.ensures.value in
    absurd (omega (arith, begins-rise is c.args.from c.args.to c.requires.order c.requires.within, c.if-prove.true))

pub prove-unreachable-requires-2 : goal.prove-unreachable-requires-2
prove-unreachable-requires-2 c =
    let names = ap (λ (v : SheetView). v.names) c.self.view_is in
    let is = text-seen c.self.invariant.text names c.as_slice-bytes.ensures.value c.as_slice-begins.ensures.value in
    absurd (omega (arith, begins-within is c.args.to c.requires.within, c.if-prove-2.true))

pub returns-clause-value : goal.returns-clause-value
returns-clause-value c =
    let names = ap (λ (v : SheetView). v.names) c.self.view_is in
    let is = text-seen c.self.invariant.text names c.as_slice-bytes.ensures.value c.as_slice-begins.ensures.value in
    text-between is c.args.from c.args.to c.requires.order c.requires.within
