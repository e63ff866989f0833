use Rattle.std.proofs.Common.{ℕ, ◌+◌, ◌≤◌, length, arith}
use Rattle.std.proofs.lemmas.List.{length-take, length-drop}
use Rattle.wires.proofs.Fronts.{Appends-on}
use Rattle.wires.proofs.retries.write_whole.Goals as goal

pub loop-done-preserved : goal.loop-done-preserved
loop-done-preserved g c =
    let wrote = c.in_ok-done.ensures in
    let within : c.loop-done.done + c.in_ok-done.field-0 ≤ length c.args.bytes.now =
    omega (arith, wrote.bound, length-take {A = ℕ}, length-drop {A = ℕ}) in
    (within, Appends-on _ _ _ _ _ _ within c.loop-done.invariant.1 wrote.bytes)
