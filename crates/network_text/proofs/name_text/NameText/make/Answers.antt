use Rattle.std.proofs.Common.{arith, take_all}
use Rattle.network_text.proofs.NameTexts.{text-none, text-more}
use Rattle.network_text.proofs.name_text.NameText.make.Goals as goal

pub loop-name-init : goal.loop-name-init
loop-name-init c =
    let bytes = c.in_ok-with_capacity.ensures.items in
    let begins = c.in_ok-with_capacity-2.ensures.items in
    record { text = rw (c.in_ok-push.ensures.items, bytes, begins) text-none; few = rw bytes (omega arith) }

pub loop-name-preserved : goal.loop-name-preserved
loop-name-preserved c =
    let before = c.loop-name.invariant in
    let added = c.in_ok-add.ensures in
    let names = c.args.names.now in
    let within = c.loop-name-test.true in
    record {
      text = text-more names c.loop-name.name-index within c.name-item.is before.text added.bytes added.begins;
      few = omega (arith, before.few, added.few);
    }

pub returns : goal.returns
returns c = rw (take_all _ _ c.loop-name-test.false) at c.loop-name.invariant.text
