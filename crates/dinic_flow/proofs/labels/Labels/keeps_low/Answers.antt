-- The invariant says it of the numbers.
use Rattle.std.proofs.Common.{ℕ, ◌-◌, ◌<◌, ◌≤◌, List, length, get_or, ap, subst, arith}
use Rattle.std.proofs.lemmas.List.{length-map}
use Rattle.dinic_flow.specs.declared.labels.TheConstants.{MOST_LABEL}
use Rattle.dinic_flow.proofs.Bases.{labels_above-most}
use Rattle.dinic_flow.proofs.labels.Labels.keeps_low.Goals as goal

pub returns : goal.returns
returns c =
    let base = c.self.inside.base in
    let numbers = c.self.inside.numbers.items in
    let within : c.args.router < length numbers =
    omega (arith, c.requires, ap length c.self.view_is, length-map numbers (λ (n : ℕ). n - base)) in
    subst (λ (labels : List ℕ). get_or labels c.args.router 0 ≤ MOST_LABEL) c.self.view_is
    (labels_above-most base numbers MOST_LABEL c.args.router within (c.self.invariant.most c.args.router 0 within))
