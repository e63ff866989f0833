-- Where nothing is pushed, the flow is as it was.
use Rattle.std.proofs.Common.{◌≡◌, ℕ, List, sym, ap, arith, subst}
use Rattle.std.specs.Prelude.{ℤ}
use Rattle.residual_graph.specs.View.{ResidualView, pushed}
use Rattle.dinic_flow.proofs.Pushes.{pushed-none}
use Rattle.dinic_flow.proofs.blocking.push_some.Goals as goal

pub returns-else-amount-gt0-clause-value : goal.returns-else-amount-gt0-clause-value
returns-else-amount-gt0-clause-value g c =
    let none : c.args.amount ≡ 0 = omega arith in
    let same : pushed c.args.graph.now.flow c.args.arc c.args.amount ≡ c.args.graph.now.flow =
    subst (λ (n : ℕ). pushed c.args.graph.now.flow c.args.arc n ≡ c.args.graph.now.flow) (sym none)
    (pushed-none c.args.graph.now.flow c.args.arc) in
    ap (λ (f : List ℤ). let w : ResidualView = record c.args.graph.now { flow = f } in w) (sym same)
