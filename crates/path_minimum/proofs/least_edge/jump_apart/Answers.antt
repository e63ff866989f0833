use Rattle.std.proofs.Common.{◌+◌, arith}
use Rattle.cut_model.proofs.Terminals.{terminal-lt}
use Rattle.path_minimum.specs.Jumps.{IsJump}
use Rattle.path_minimum.specs.Walks.{IsLesser, edge_of}
use Rattle.path_minimum.proofs.Jumping.{looked-jump}
use Rattle.path_minimum.proofs.Passing.{AreLooked, Look, passed-both, apart-after, apart-near}
use Rattle.path_minimum.proofs.least_edge.jump_apart.Goals as goal

pub look-one-requires : goal.look-one-requires
look-one-requires g c =
    omega (arith, c.requires.rung.size, terminal-lt c.args.finished.now.tree.net c.args.ends.x c.requires.ends.x_is)

pub look-other-requires : goal.look-other-requires
look-other-requires g c =
    omega (arith, c.requires.rung.size, terminal-lt c.args.finished.now.tree.net c.args.ends.y c.requires.ends.y_is)

pub edge_above-requires : goal.edge_above-requires
edge_above-requires g c =
    let tree = c.args.finished.now.tree in
    let is : IsJump tree c.args.rung.now.steps c.args.ends.x c.look-one.result =
    looked-jump tree c.args.rung.now c.args.ends.x c.look-one.result c.requires.rung
    (terminal-lt tree.net c.args.ends.x c.requires.ends.x_is) c.look-one.ensures.jump in
    is.child_within

pub edge_above-requires-2 : goal.edge_above-requires-2
edge_above-requires-2 g c =
    let tree = c.args.finished.now.tree in
    let is : IsJump tree c.args.rung.now.steps c.args.ends.y c.look-other.result =
    looked-jump tree c.args.rung.now c.args.ends.y c.look-other.result c.requires.rung
    (terminal-lt tree.net c.args.ends.y c.requires.ends.y_is) c.look-other.ensures.jump in
    is.child_within

pub returns-then-one-other-clause-ends : goal.returns-then-one-other-clause-ends
returns-then-one-other-clause-ends g c =
    let tree = c.args.finished.now.tree in
    let steps = c.args.rung.now.steps in
    let one_is : IsJump tree steps c.args.ends.x c.look-one.result =
    looked-jump tree c.args.rung.now c.args.ends.x c.look-one.result c.requires.rung
    (terminal-lt tree.net c.args.ends.x c.requires.ends.x_is) c.look-one.ensures.jump in
    let other_is : IsJump tree steps c.args.ends.y c.look-other.result =
    looked-jump tree c.args.rung.now c.args.ends.y c.look-other.result c.requires.rung
    (terminal-lt tree.net c.args.ends.y c.requires.ends.y_is) c.look-other.ensures.jump in
    apart-near tree steps (steps + steps) c.args.ends c.look-one.result c.look-other.result c.requires.ends one_is
    other_is c.if-one-other.true

pub returns-clause-passed : goal.returns-clause-passed
returns-clause-passed g c a b before =
    let tree = c.args.finished.now.tree in
    let looked : AreLooked tree c.args.rung.now.steps c.args.ends c.look-one.result c.look-other.result =
    record {
      ends_are = c.requires.ends;
      one_is = looked-jump tree c.args.rung.now c.args.ends.x c.look-one.result c.requires.rung
          (terminal-lt tree.net c.args.ends.x c.requires.ends.x_is) c.look-one.ensures.jump;
      other_is = looked-jump tree c.args.rung.now c.args.ends.y c.look-other.result c.requires.rung
          (terminal-lt tree.net c.args.ends.y c.requires.ends.y_is) c.look-other.ensures.jump;
      differ = c.if-one-other.false;
    } in
    let look : Look = record {
      one = c.look-one.result;
      other = c.look-other.result;
      middle = c.lesser-least.result;
      next = c.lesser.result;
    } in
    let middle : IsLesser c.lesser-least.result c.args.ends.least (edge_of tree c.look-one.result.child) =
    rw c.edge_above.ensures at c.lesser-least.ensures in
    let next : IsLesser c.lesser.result c.lesser-least.result (edge_of tree c.look-other.result.child) =
    rw c.edge_above-2.ensures at c.lesser.ensures in
    passed-both tree c.requires.tree c.args.rung.now.steps c.args.ends look looked
    (record { middle = middle; next = next }) a b before

pub returns-clause-ends : goal.returns-clause-ends
returns-clause-ends g c =
    let tree = c.args.finished.now.tree in
    apart-after tree c.requires.tree c.args.rung.now.steps c.args.ends c.look-one.result c.look-other.result
    c.lesser.result
    (record {
      ends_are = c.requires.ends;
      one_is = looked-jump tree c.args.rung.now c.args.ends.x c.look-one.result c.requires.rung
          (terminal-lt tree.net c.args.ends.x c.requires.ends.x_is) c.look-one.ensures.jump;
      other_is = looked-jump tree c.args.rung.now c.args.ends.y c.look-other.result c.requires.rung
          (terminal-lt tree.net c.args.ends.y c.requires.ends.y_is) c.look-other.ensures.jump;
      differ = c.if-one-other.false;
    })
