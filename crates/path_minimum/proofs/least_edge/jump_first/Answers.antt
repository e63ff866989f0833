use Rattle.std.proofs.Common.{◌≡◌, ◌+◌, arith}
use Rattle.cut_model.proofs.Terminals.{terminal-lt}
use Rattle.path_minimum.specs.Depths.{depth_of}
use Rattle.path_minimum.specs.Jumps.{IsJump}
use Rattle.path_minimum.proofs.Jumping.{looked-jump}
use Rattle.path_minimum.proofs.Passing.{passed-jump, jumped-lower, jump-above, deep-not_root, depth-jump}
use Rattle.path_minimum.proofs.least_edge.jump_first.Goals as goal

pub look-jump-requires : goal.look-jump-requires
look-jump-requires g c =
    omega (arith, c.requires.rung.size, terminal-lt c.args.finished.now.tree.net c.args.ends.x c.requires.x)

pub edge_above-requires : goal.edge_above-requires
edge_above-requires g c =
    let tree = c.args.finished.now.tree in
    let is : IsJump tree c.args.rung.now.steps c.args.ends.x c.look-jump.result =
    looked-jump tree c.args.rung.now c.args.ends.x c.look-jump.result c.requires.rung
    (terminal-lt tree.net c.args.ends.x c.requires.x) c.look-jump.ensures.jump in
    is.child_within

pub returns-clause-passed : goal.returns-clause-passed
returns-clause-passed g c a b before =
    let tree = c.args.finished.now.tree in
    let jump = c.look-jump.result in
    let x = c.args.ends.x in
    let steps = c.args.rung.now.steps in
    let is : IsJump tree steps x jump =
    looked-jump tree c.args.rung.now x jump c.requires.rung (terminal-lt tree.net x c.requires.x)
    c.look-jump.ensures.jump in
    let above = jump-above tree c.requires.tree steps x jump c.requires.x is in
    let higher : depth_of tree jump.router + steps ≡ depth_of tree x =
    depth-jump tree c.requires.tree steps x jump c.requires.x is (omega (arith, c.requires.deeper)) in
    passed-jump tree c.requires.tree a b c.args.ends jump.router jump.child c.lesser.result before
    (jumped-lower tree c.requires.tree x c.args.ends.y jump.router jump.child c.requires.x c.requires.y above.0 above.1
    (omega (arith, higher, c.requires.deeper))
    (is.least c.requires.x (deep-not_root tree c.requires.tree x (omega (arith, c.requires.some, c.requires.deeper)))))
    (rw c.edge_above.ensures at c.lesser.ensures)

pub returns-clause-depth : goal.returns-clause-depth
returns-clause-depth g c =
    let tree = c.args.finished.now.tree in
    let is : IsJump tree c.args.rung.now.steps c.args.ends.x c.look-jump.result =
    looked-jump tree c.args.rung.now c.args.ends.x c.look-jump.result c.requires.rung
    (terminal-lt tree.net c.args.ends.x c.requires.x) c.look-jump.ensures.jump in
    depth-jump tree c.requires.tree c.args.rung.now.steps c.args.ends.x c.look-jump.result c.requires.x is
    (omega (arith, c.requires.deeper))

pub returns-clause-x : goal.returns-clause-x
returns-clause-x g c =
    let tree = c.args.finished.now.tree in
    let is : IsJump tree c.args.rung.now.steps c.args.ends.x c.look-jump.result =
    looked-jump tree c.args.rung.now c.args.ends.x c.look-jump.result c.requires.rung
    (terminal-lt tree.net c.args.ends.x c.requires.x) c.look-jump.ensures.jump in
    (jump-above tree c.requires.tree c.args.rung.now.steps c.args.ends.x c.look-jump.result c.requires.x is).0
