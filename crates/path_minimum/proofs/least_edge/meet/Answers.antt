use Rattle.std.proofs.Common.{◌∙◌, sym, arith}
use Rattle.cut_model.proofs.Terminals.{terminal-lt}
use Rattle.path_minimum.specs.Jumps.{IsJump}
use Rattle.path_minimum.proofs.Jumping.{looked-single, first-rung, single-rung}
use Rattle.path_minimum.proofs.Passing.{AreLast, AreLesser, Look, passed-last, passed-all, apart-more}
use Rattle.path_minimum.proofs.least_edge.meet.Goals as goal

pub rung-single-requires : goal.rung-single-requires
rung-single-requires g c =
    first-rung c.args.ladder.now.rungs c.args.finished.now.tree c.requires.rungs
    (apart-more c.args.finished.now.tree c.requires.tree 1 c.args.ends c.requires.ends)

pub look-one-requires : goal.look-one-requires
look-one-requires g c =
    let tree = c.args.finished.now.tree in
    let rung = c.rung-single.result.now in
    let single = single-rung tree c.args.ladder.now.rungs rung c.requires.rungs
    (apart-more tree c.requires.tree 1 c.args.ends c.requires.ends) c.rung-single.ensures in
    omega (arith, single.1.size, terminal-lt tree.net c.args.ends.x c.requires.ends.x_is)

pub look-other-requires : goal.look-other-requires
look-other-requires g c =
    let tree = c.args.finished.now.tree in
    let rung = c.rung-single.result.now in
    let single = single-rung tree c.args.ladder.now.rungs rung c.requires.rungs
    (apart-more tree c.requires.tree 1 c.args.ends c.requires.ends) c.rung-single.ensures in
    omega (arith, single.1.size, terminal-lt tree.net c.args.ends.y c.requires.ends.y_is)

pub edge_above-requires : goal.edge_above-requires
edge_above-requires g c =
    let tree = c.args.finished.now.tree in
    let rung = c.rung-single.result.now in
    let single = single-rung tree c.args.ladder.now.rungs rung c.requires.rungs
    (apart-more tree c.requires.tree 1 c.args.ends c.requires.ends) c.rung-single.ensures in
    let one_is : IsJump tree 1 c.args.ends.x c.look-one.result =
    looked-single tree rung c.args.ends.x c.look-one.result single
    (terminal-lt tree.net c.args.ends.x c.requires.ends.x_is) c.look-one.ensures.jump in
    one_is.child_within

pub edge_above-requires-2 : goal.edge_above-requires-2
edge_above-requires-2 g c =
    let tree = c.args.finished.now.tree in
    let rung = c.rung-single.result.now in
    let single = single-rung tree c.args.ladder.now.rungs rung c.requires.rungs
    (apart-more tree c.requires.tree 1 c.args.ends c.requires.ends) c.rung-single.ensures in
    let other_is : IsJump tree 1 c.args.ends.y c.look-other.result =
    looked-single tree rung c.args.ends.y c.look-other.result single
    (terminal-lt tree.net c.args.ends.y c.requires.ends.y_is) c.look-other.ensures.jump in
    other_is.child_within

pub returns-clause-edge : goal.returns-clause-edge
returns-clause-edge g c a b before =
    let tree = c.args.finished.now.tree in
    let rung = c.rung-single.result.now in
    let single = single-rung tree c.args.ladder.now.rungs rung c.requires.rungs
    (apart-more tree c.requires.tree 1 c.args.ends c.requires.ends) c.rung-single.ensures in
    let one_is : IsJump tree 1 c.args.ends.x c.look-one.result =
    looked-single tree rung c.args.ends.x c.look-one.result single
    (terminal-lt tree.net c.args.ends.x c.requires.ends.x_is) c.look-one.ensures.jump in
    let other_is : IsJump tree 1 c.args.ends.y c.look-other.result =
    looked-single tree rung c.args.ends.y c.look-other.result single
    (terminal-lt tree.net c.args.ends.y c.requires.ends.y_is) c.look-other.ensures.jump in
    let look : Look = record {
      one = c.look-one.result;
      other = c.look-other.result;
      middle = c.lesser-nearer.result;
      next = c.lesser.result;
    } in
    let last : AreLast tree c.args.ends look =
    record { ends_are = c.requires.ends; one_is = one_is; other_is = other_is } in
    let lesser : AreLesser tree c.args.ends.least look =
    record {
      middle = rw c.edge_above.ensures at c.lesser-nearer.ensures;
      next = rw c.edge_above-2.ensures at c.lesser.ensures;
    } in
    passed-all tree c.requires.tree a b
    (record { x = c.look-other.result.router; y = c.look-one.result.router; least = c.lesser.result })
    (passed-last tree c.requires.tree c.args.ends look last lesser a b before)
    (other_is.router_is ∙ sym c.requires.ends.meet ∙ sym one_is.router_is)

pub returns-clause-is : goal.returns-clause-is
returns-clause-is g c a b before =
    let tree = c.args.finished.now.tree in
    let rung = c.rung-single.result.now in
    let single = single-rung tree c.args.ladder.now.rungs rung c.requires.rungs
    (apart-more tree c.requires.tree 1 c.args.ends c.requires.ends) c.rung-single.ensures in
    let one_is : IsJump tree 1 c.args.ends.x c.look-one.result =
    looked-single tree rung c.args.ends.x c.look-one.result single
    (terminal-lt tree.net c.args.ends.x c.requires.ends.x_is) c.look-one.ensures.jump in
    let other_is : IsJump tree 1 c.args.ends.y c.look-other.result =
    looked-single tree rung c.args.ends.y c.look-other.result single
    (terminal-lt tree.net c.args.ends.y c.requires.ends.y_is) c.look-other.ensures.jump in
    let look : Look = record {
      one = c.look-one.result;
      other = c.look-other.result;
      middle = c.lesser-nearer.result;
      next = c.lesser.result;
    } in
    let last : AreLast tree c.args.ends look =
    record { ends_are = c.requires.ends; one_is = one_is; other_is = other_is } in
    let lesser : AreLesser tree c.args.ends.least look =
    record {
      middle = rw c.edge_above.ensures at c.lesser-nearer.ensures;
      next = rw c.edge_above-2.ensures at c.lesser.ensures;
    } in
    (passed-last tree c.requires.tree c.args.ends look last lesser a b before).edge
