-- Each phase is over levels that are farther than those before.
use Rattle.std.proofs.Common.{◌≡◌, ℕ, ◌+◌, ◌<◌, length, arith, ap, refl, ◌∙◌}
use Rattle.residual_graph.specs.View.{ResidualView}
use Rattle.dinic_flow.proofs.Growing.{Ends, ends_of, Standing, grows-on, paid-all}
use Rattle.dinic_flow.proofs.flow.max_flow.Goals as goal

pub loop-graph-preserved : goal.loop-graph-preserved
loop-graph-preserved g c =
    let ends : Ends = ends_of c.args.threshold c.args.s c.args.t in
    let now : Standing = record {
      view = c.loop-graph.graph;
      value = c.loop-graph.value;
      phases = c.loop-graph.phases;
      steps = c.loop-graph.steps;
    } in
    let next : Standing = record {
      view = c.phase-value.new.graph;
      value = c.phase-value.result;
      phases = c.loop-graph.phases + 1;
      steps = c.phase-value.new.steps;
    } in
    let grown = grows-on ends c.args.graph.now c.args.steps.now now next c.loop-graph.invariant.grown (record {
      label = c.search.new.label;
      distance = c.in-Joined.field-0;
      searched = c.search.new.steps;
      joined = c.in-Joined.ensures.found.0;
      looked = c.search.ensures.steps;
      counted = refl;
      same = c.phase-value.ensures.same;
      sound = c.phase-value.ensures.sound;
      flow = c.phase-value.ensures.flow;
      farther = c.phase-value.ensures.farther;
      cost = c.phase-value.ensures.steps;
    }) in
    record {
      grown = grown;
      label = c.search.ensures.label ∙ c.loop-graph.invariant.label;
      marks = c.search.ensures.marks ∙ c.loop-graph.invariant.marks;
    }

pub returns-in-Apart-clause-steps : goal.returns-in-Apart-clause-steps
returns-in-Apart-clause-steps g c =
    let inv = c.loop-graph.invariant.grown in
    let net : c.loop-graph.graph.net ≡ c.args.graph.now.net = ap (λ (v : ResidualView). v.net) inv.same in
    let links : ℕ = length c.args.graph.now.net.links in
    let some : 0 < inv.distance → 0 < links = λ far. omega (arith, rw net at (inv.some far)) in
    let all = paid-all links c.args.graph.now.net.routers inv.distance (rw net at inv.short) some in
    omega (arith, rw net at inv.cost, rw net at c.search.ensures.steps, all)
