use Rattle.std.proofs.Common.{sym, subst}
use Rattle.network_text.specs.Texts.{Draft}
use Rattle.network_text.specs.Readings.{IsWithinLimits}
use Rattle.network_text.proofs.Made.{some-element, faultless, IsSheet-whole}
use Rattle.network_text.proofs.drafting.Drafting.into_sheet.Goals as goal

pub unreachable-requires : goal.unreachable-requires
unreachable-requires c =
    let small = subst (λ (d : Draft). IsWithinLimits d.names d.links) (sym c.self.view_is) c.requires in
    let some = some-element _ _ c.is_empty.ensures.1 c.if-is_empty.false in
    let none = faultless _ _ _ small some c.len-routers.ensures.len in
    let fault = c.in_default.ensures.fault in cc

pub make-requires-2 : goal.make-requires-2
make-requires-2 c =
    let small = subst (λ (d : Draft). IsWithinLimits d.names d.links) (sym c.self.view_is) c.requires in
    let some = some-element _ _ c.is_empty.ensures.1 c.if-is_empty.false in
    IsSheet-whole _ _ _ _ small some c.len-routers.ensures.unique c.len-routers.ensures.len c.in-Ok.ensures.value
