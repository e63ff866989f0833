use Rattle.std.proofs.Common.{◌≤◌, sym, subst, arith}
use Rattle.cut_model.proofs.Terminals.{terminal-lt}
use Rattle.path_minimum.specs.declared.least_edge.PathLeast.{PathLeast}
use Rattle.path_minimum.specs.Depths.{depth_of}
use Rattle.path_minimum.specs.Passing.{HasPassed}
use Rattle.path_minimum.proofs.Passing.{either-low, ladder-order, passed-begun}
use Rattle.path_minimum.proofs.least_edge.begin.Goals as goal

pub deeper_first-x-requires-clause-x : goal.deeper_first-x-requires-clause-x
deeper_first-x-requires-clause-x c = omega (
  arith,
  c.requires.ladder.depths_are.size,
  terminal-lt c.args.finished.now.tree.net c.args.a c.requires.a,
)

pub deeper_first-x-requires-clause-y : goal.deeper_first-x-requires-clause-y
deeper_first-x-requires-clause-y c = omega (
  arith,
  c.requires.ladder.depths_are.size,
  terminal-lt c.args.finished.now.tree.net c.args.b c.requires.b,
)

pub edge_above-requires : goal.edge_above-requires
edge_above-requires c =
    let net = c.args.finished.now.tree.net in
    (either-low net.routers c.deeper_first-x.result c.args.a c.args.b (terminal-lt net c.args.a c.requires.a)
    (terminal-lt net c.args.b c.requires.b) c.deeper_first-x.ensures.either).0

-- the depths of the two are in order
order : (c : goal.After-edge_above)
    → depth_of c.args.finished.now.tree c.deeper_first-x.result.1
    ≤ depth_of c.args.finished.now.tree c.deeper_first-x.result.0
order c =
    let tree = c.args.finished.now.tree in
    ladder-order tree c.args.ladder.now.depths c.requires.ladder.depths_are c.deeper_first-x.result
    (either-low tree.net.routers c.deeper_first-x.result c.args.a c.args.b
    (terminal-lt tree.net c.args.a c.requires.a) (terminal-lt tree.net c.args.b c.requires.b)
    c.deeper_first-x.ensures.either)
    c.deeper_first-x.ensures.order

pub returns-clause-passed : goal.returns-clause-passed
returns-clause-passed c =
    let tree = c.args.finished.now.tree in
    let pair = c.deeper_first-x.result in
    subst (λ (p : PathLeast). HasPassed tree c.args.a c.args.b (record { x = pair.0; y = pair.1; least = p }))
    (sym c.edge_above.ensures)
    (passed-begun tree c.requires.tree c.args.a c.args.b pair c.requires.a c.requires.b c.requires.differ
    c.deeper_first-x.ensures.either (order c))

pub returns-clause-order : goal.returns-clause-order
returns-clause-order c = order c
