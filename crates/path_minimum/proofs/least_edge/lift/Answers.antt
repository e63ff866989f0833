use Rattle.std.proofs.Common.{◌≡◌, ℕ, ◌+◌, ◌-◌, ◌^◌, ◌<◌, length, ◌∙◌, ap, arith, refl}
use Rattle.cut_model.proofs.Terminals.{terminal-lt}
use Rattle.path_minimum.specs.Depths.{depth_of}
use Rattle.path_minimum.specs.Jumps.{RungView}
use Rattle.path_minimum.proofs.Depths.{depth_of-lt}
use Rattle.path_minimum.proofs.Jumping.{pow-twice}
use Rattle.path_minimum.proofs.least_edge.lift.Goals as goal

pub depth-requires : goal.depth-requires
depth-requires g c = omega (
  arith,
  c.requires.ladder.depths_are.size,
  terminal-lt c.args.finished.now.tree.net c.args.from.x c.requires.x,
)

pub depth-requires-2 : goal.depth-requires-2
depth-requires-2 g c = omega (
  arith,
  c.requires.ladder.depths_are.size,
  terminal-lt c.args.finished.now.tree.net c.args.from.y c.requires.y,
)

pub overflow_sub-left : goal.overflow_sub-left
overflow_sub-left g c =
    let net = c.args.finished.now.tree.net in
    omega (
      arith,
      c.depth.ensures,
      c.depth-2.ensures,
      c.requires.ladder.depths_are.depth_is c.args.from.x (terminal-lt net c.args.from.x c.requires.x),
      c.requires.ladder.depths_are.depth_is c.args.from.y (terminal-lt net c.args.from.y c.requires.y),
      c.requires.order,
    )

pub loop-level-init : goal.loop-level-init
loop-level-init g c =
    let tree = c.args.finished.now.tree in
    let depth_x : c.depth.result ≡ depth_of tree c.args.from.x =
    c.depth.ensures
    ∙ c.requires.ladder.depths_are.depth_is c.args.from.x (terminal-lt tree.net c.args.from.x c.requires.x) in
    let depth_y : c.depth-2.result ≡ depth_of tree c.args.from.y =
    c.depth-2.ensures
    ∙ c.requires.ladder.depths_are.depth_is c.args.from.y (terminal-lt tree.net c.args.from.y c.requires.y) in
    let count : c.levels-level.result ≡ length c.args.ladder.now.rungs = c.levels-level.ensures in
    record {
      x_is = c.requires.x;
      y_same = refl;
      depth = omega (arith, depth_x, depth_y, c.requires.order);
      short = omega (
        arith,
        depth_x,
        depth_of-lt tree c.requires.tree c.args.from.x,
        c.requires.ladder.rungs_are.enough,
        ap (λ (n : ℕ). 2 ^ n) count,
      );
      tried = omega (arith, count);
      steps = omega (arith, count);
      passed = λ a b before. before;
    }

pub loop-level-preserved-then-steps-left : goal.loop-level-preserved-then-steps-left
loop-level-preserved-then-steps-left g c =
    let tree = c.args.finished.now.tree in
    let before = c.loop-level.invariant in
    let below : c.loop-level.level - 1 < length c.args.ladder.now.rungs =
    omega (arith, before.tried, c.loop-level-test.true) in
    let steps : c.rung-rung.result.now.steps ≡ 2 ^ (c.loop-level.level - 1) =
    ap (λ (r : RungView). r.steps) c.rung-rung.ensures
    ∙ c.requires.ladder.rungs_are.rungs_are.steps_are (c.loop-level.level - 1) below in
    let level : c.loop-level.level - 1 + 1 ≡ c.loop-level.level = omega (arith, c.loop-level-test.true) in
    let twice : 2 ^ (c.loop-level.level - 1) + 2 ^ (c.loop-level.level - 1) ≡ 2 ^ c.loop-level.level =
    pow-twice (c.loop-level.level - 1) ∙ ap (λ (n : ℕ). 2 ^ n) level in
    let same : depth_of tree c.jump_first-ends.result.y ≡ depth_of tree c.loop-level.ends.y =
    ap (depth_of tree) c.jump_first-ends.ensures.y in
    record {
      x_is = c.jump_first-ends.ensures.x;
      y_same = c.jump_first-ends.ensures.y ∙ before.y_same;
      depth = omega (
        arith,
        before.depth,
        c.jump_first-ends.ensures.depth,
        c.steps-left.ensures,
        c.steps.ensures,
        c.if-steps-left.true,
        same,
      );
      short = omega (arith, before.short, c.steps-left.ensures, steps, twice);
      tried = omega (arith, before.tried);
      steps = omega (arith, before.steps, c.jump_first-ends.ensures.steps, c.loop-level-test.true);
      passed = λ a b passed. c.jump_first-ends.ensures.passed a b (before.passed a b passed);
    }
