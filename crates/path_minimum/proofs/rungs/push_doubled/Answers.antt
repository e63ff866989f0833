use Rattle.std.proofs.Common.{rules, ℕ, ◌+◌, ◌<◌, length, sym, ap, subst, arith}
use Rattle.path_minimum.specs.Jumps.{IsJump}
use Rattle.path_minimum.proofs.Jumping.{all-push, length-push, doubled-all}
use Rattle.path_minimum.proofs.rungs.push_doubled.Goals as goal

pub loop-first-preserved : goal.loop-first-preserved
loop-first-preserved c =
    let tree = c.args.finished.now.tree in
    let before = c.loop-first.invariant in
    let index = c.loop-first.first-index in
    let low : index < tree.net.routers = omega (arith, c.loop-first-test.true, c.requires.size) in
    record {
      count = omega (arith, c.push_reserved.ensures.len, before.count);
      size = omega (
        arith,
        ap length c.push_reserved.ensures.items,
        length-push c.loop-first.doubled.items c.joined.result,
        before.size,
      );
      room = rw c.push_reserved.ensures.capacity before.room;
      made = λ steps are. rw c.push_reserved.ensures.items
          (all-push (IsJump tree (steps + steps)) c.loop-first.doubled.items c.joined.result
          (record { router = 0; child = 0 }) (before.made steps are)
          (subst (λ (k : ℕ). IsJump tree (steps + steps) k c.joined.result) (sym before.size)
          (c.joined.ensures steps index low (search (rules, are.jump_is index low)) (search (rules, are.jump_is)))));
    }

pub returns : goal.returns
returns c steps are =
    doubled-all c.args.finished.now.tree steps c.args.jumps.now c.loop-first.doubled.items are
    (omega (arith, c.loop-first.invariant.size, c.loop-first-test.false, c.loop-first.auto.first-index-end))
    (c.loop-first.invariant.made steps are)
