use Rattle.std.proofs.Common.{ℕ, sym, ap, subst}
use Rattle.cut_model.specs.Cuts.{IsLeastCut}
use Rattle.cut_model.proofs.Terminals.{terminal-lt}
use Rattle.tree_state.specs.Views.{up_of}
use Rattle.tree_state.specs.Paths.{side_for}
use Rattle.tree_state.proofs.LeastEdges.{least_edge_cut}
use Rattle.path_minimum.specs.declared.least_edge.PathLeast.{PathLeast}
use Rattle.path_minimum.proofs.Passing.{passed-all, apart-begun}
use Rattle.path_minimum.proofs.least_edge.least_on_path.Goals as goal

pub returns-then-level-clause-edge : goal.returns-then-level-clause-edge
returns-then-level-clause-edge g c =
    let tree = c.args.finished.now.tree in
    let lifted = c.lift-level.ensures.passed c.args.a c.args.b c.begin.ensures.passed in
    passed-all tree c.net.ensures.tree c.args.a c.args.b c.lift-level.result lifted c.if-level.true

pub returns-then-level-clause-width : goal.returns-then-level-clause-width
returns-then-level-clause-width g c =
    let lifted = c.lift-level.ensures.passed c.args.a c.args.b c.begin.ensures.passed in
    ap (λ (p : PathLeast). p.width) lifted.edge

pub returns-then-level-clause-least : goal.returns-then-level-clause-least
returns-then-level-clause-least g c =
    let tree = c.args.finished.now.tree in
    let lifted = c.lift-level.ensures.passed c.args.a c.args.b c.begin.ensures.passed in
    let child = c.lift-level.result.least.child in
    subst (λ (w : ℕ). IsLeastCut tree.net c.args.a c.args.b (side_for tree.net.routers (up_of tree) c.args.a child) w)
    (sym (ap (λ (p : PathLeast). p.width) lifted.edge))
    (least_edge_cut tree.net _ _ _ c.net.ensures.tree c.args.a c.args.b child c.requires.a c.requires.b
    (passed-all tree c.net.ensures.tree c.args.a c.args.b c.lift-level.result lifted c.if-level.true))

pub returns-then-level-clause-within : goal.returns-then-level-clause-within
returns-then-level-clause-within g c =
    let tree = c.args.finished.now.tree in
    let lifted = c.lift-level.ensures.passed c.args.a c.args.b c.begin.ensures.passed in
    terminal-lt tree.net c.lift-level.result.least.child lifted.on_path.terminal

pub rise-near-requires-clause-ends : goal.rise-near-requires-clause-ends
rise-near-requires-clause-ends g c =
    let tree = c.args.finished.now.tree in
    let lifted = c.lift-level.ensures.passed c.args.a c.args.b c.begin.ensures.passed in
    apart-begun tree c.net.ensures.tree _ c.lift-level.result lifted.x_is lifted.y_is c.lift-level.ensures.depth
    c.if-level.false c.requires.ladder.rungs_are.enough

pub returns-clause-edge : goal.returns-clause-edge
returns-clause-edge g c =
    let lifted = c.lift-level.ensures.passed c.args.a c.args.b c.begin.ensures.passed in
    c.meet.ensures.edge c.args.a c.args.b (c.rise-near.ensures.passed c.args.a c.args.b lifted)

pub returns-clause-width : goal.returns-clause-width
returns-clause-width g c =
    let lifted = c.lift-level.ensures.passed c.args.a c.args.b c.begin.ensures.passed in
    ap (λ (p : PathLeast). p.width)
    (c.meet.ensures.is c.args.a c.args.b (c.rise-near.ensures.passed c.args.a c.args.b lifted))

pub returns-clause-least : goal.returns-clause-least
returns-clause-least g c =
    let tree = c.args.finished.now.tree in
    let lifted = c.lift-level.ensures.passed c.args.a c.args.b c.begin.ensures.passed in
    let child = c.meet.result.child in
    let risen = c.rise-near.ensures.passed c.args.a c.args.b lifted in
    subst (λ (w : ℕ). IsLeastCut tree.net c.args.a c.args.b (side_for tree.net.routers (up_of tree) c.args.a child) w)
    (sym (ap (λ (p : PathLeast). p.width) (c.meet.ensures.is c.args.a c.args.b risen)))
    (least_edge_cut tree.net _ _ _ c.net.ensures.tree c.args.a c.args.b child c.requires.a c.requires.b
    (c.meet.ensures.edge c.args.a c.args.b risen))

pub returns-clause-within : goal.returns-clause-within
returns-clause-within g c =
    let tree = c.args.finished.now.tree in
    let lifted = c.lift-level.ensures.passed c.args.a c.args.b c.begin.ensures.passed in
    terminal-lt tree.net c.meet.result.child
    (c.meet.ensures.edge c.args.a c.args.b (c.rise-near.ensures.passed c.args.a c.args.b lifted)).on_path.terminal
