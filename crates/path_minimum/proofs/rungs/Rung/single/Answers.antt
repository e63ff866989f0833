use Rattle.std.proofs.Common.{ℕ, ◌<◌, ◌∙◌, sym, ap, subst, arith, length}
use Rattle.cut_model.specs.Net.{Net}
use Rattle.path_minimum.specs.Jumps.{IsJump}
use Rattle.path_minimum.proofs.Jumping.{all-push, length-push, single-jump}
use Rattle.path_minimum.proofs.rungs.Rung.single.Goals as goal

pub loop-child-preserved : goal.loop-child-preserved
loop-child-preserved c =
    let tree = c.args.finished.now.tree in
    let child = c.loop-child.child in
    let before = c.loop-child.invariant in
    let low : child < tree.net.routers = omega (
      arith,
      c.loop-child-test.true,
      c.routers-routers.ensures.value,
      ap (λ (net : Net). net.routers) (c.deref.ensures ∙ c.net.ensures.value),
    ) in
    let new : IsJump tree 1 child (record { router = c.up.result; child = child }) =
    rw c.up.ensures.value (single-jump tree c.net.ensures.tree child low) in
    record {
      count = omega (arith, c.push_reserved.ensures.len, before.count);
      size = omega (
        arith,
        ap length c.push_reserved.ensures.items,
        length-push c.loop-child.jumps.items (record { router = c.up.result; child = child }),
        before.size,
      );
      room = rw c.push_reserved.ensures.capacity before.room;
      made = rw c.push_reserved.ensures.items
          (all-push (IsJump tree 1) c.loop-child.jumps.items (record { router = c.up.result; child = child })
          (record { router = 0; child = 0 }) before.made
          (subst (λ (k : ℕ). IsJump tree 1 k (record { router = c.up.result; child = child })) (sym before.size) new));
    }
