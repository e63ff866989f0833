use Rattle.std.proofs.Common.{length, drop, eqb, refl, arith}
use Rattle.std.specs.Int.RustNames.{bit_xor}
use Rattle.std.proofs.lemmas.List.{get_or_read_under}
use Rattle.residual_graph.proofs.Reading.{is_of, sound_of}
use Rattle.residual_graph.proofs.Stored.{push_at, told_apart, written}
use Rattle.residual_graph.proofs.residual.Residual.push.Goals as goal

pub index-requires : goal.index-requires
index-requires g c = omega (arith, (is_of c.self.invariant c.args.self.now c.self.view_is).left_fits)

pub index-requires-2 : goal.index-requires-2
index-requires-2 g c =
    let at = push_at c.self.invariant c.args.self.now c.self.view_is c.args.arc c.args.amount c.requires.arc
    c.requires.amount in
    omega (arith, at.push.inside)

pub move_amount-requires : goal.move_amount-requires
move_amount-requires g c =
    let at = push_at c.self.invariant c.args.self.now c.self.view_is c.args.arc c.args.amount c.requires.arc
    c.requires.amount in
    rw c.deref_mut.ensures.value (record {
      apart = at.push.apart;
      from = at.inside;
      to = at.push.inside;
      enough = at.enough;
      room = at.push.room;
    })

pub invariant_of-self : goal.invariant_of-self
invariant_of-self g c =
    let at = push_at c.self.invariant c.args.self.now c.self.view_is c.args.arc c.args.amount c.requires.arc
    c.requires.amount in
    let left = c.self.inside.left.items in
    let same = written c.self.inside.left.len c.move_amount.new.left
    (drop (length c.move_amount.new.left) c.self.inside.left.items)
    (omega (arith, c.deref_mut.ensures.len)) in
    let here = get_or_read_under left c.args.arc (length left) _ 0 c.index.ensures (omega (arith, at.inside)) refl in
    let there = get_or_read_under left (bit_xor c.args.arc 1) (length left) _ 0 c.index-2.ensures
    (omega (arith, at.push.inside)) refl in
    let stored = at.stored (eqb c.index.result.now c.index-2.result.now)
    (told_apart c.index.result.now c.index-2.result.now _ _ here there) in
    rw (same, c.move_amount.ensures, c.deref_mut.ensures.value, c.note_if.ensures) stored

pub returns-clause-value : goal.returns-clause-value
returns-clause-value g c =
    let at = push_at c.self.invariant c.args.self.now c.self.view_is c.args.arc c.args.amount c.requires.arc
    c.requires.amount in
    let same = written c.self.inside.left.len c.move_amount.new.left
    (drop (length c.move_amount.new.left) c.self.inside.left.items)
    (omega (arith, c.deref_mut.ensures.len)) in
    rw (same, c.move_amount.ensures, c.deref_mut.ensures.value, c.note_if.ensures)
    (at.view_is (eqb c.index.result.now c.index-2.result.now))

pub returns-clause-sound : goal.returns-clause-sound
returns-clause-sound g c = sound_of (invariant_of-self g c) _ refl
