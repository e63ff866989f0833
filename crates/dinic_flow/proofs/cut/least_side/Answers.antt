-- What s reaches under the greatest flow is the least side.
use Rattle.std.proofs.Common.{◌≡◌, ◌∙◌, take, ap}
use Rattle.residual_graph.specs.View.{ResidualView}
use Rattle.dinic_flow.proofs.Flows.{flow-none}
use Rattle.dinic_flow.proofs.Sides.{apart-least}
use Rattle.dinic_flow.proofs.cut.least_side.Goals as goal

pub coarse_flow-coarse-requires-clause-flow : goal.coarse_flow-coarse-requires-clause-flow
coarse_flow-coarse-requires-clause-flow g c =
    flow-none c.args.graph.now.net c.args.s c.args.t c.args.graph.now.flow c.requires.differ c.requires.sound.within
    c.requires.still

pub returns-clause-least : goal.returns-clause-least
returns-clause-least g c =
    let coarse : c.coarse_flow-coarse.new.graph.net ≡ c.args.graph.now.net =
    ap (λ (v : ResidualView). v.net) c.coarse_flow-coarse.ensures.same in
    let net : c.max_flow-fine.new.graph.net ≡ c.args.graph.now.net =
    ap (λ (v : ResidualView). v.net) c.max_flow-fine.ensures.same ∙ coarse in
    apart-least c.max_flow-fine.new.graph c.args.s c.args.t c.max_flow-fine.result.value
    (take c.max_flow-fine.result.reached c.max_flow-fine.new.ahead) c.hold_only.new.side c.max_flow-fine.ensures.sound
    (rw net c.requires.s) c.max_flow-fine.ensures.flow c.max_flow-fine.ensures.apart
    c.hold_only.ensures.held
