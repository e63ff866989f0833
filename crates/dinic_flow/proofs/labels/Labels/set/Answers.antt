-- The number is the label on top of the base.
use Rattle.std.proofs.Common.{List, ℕ, set, ap, ◌∙◌}
use Rattle.dinic_flow.proofs.Bases.{labels_above-set}
use Rattle.dinic_flow.proofs.labels.Labels.set.Goals as goal

pub returns : goal.returns
returns c =
    labels_above-set c.self.inside.base c.self.inside.numbers.items c.args.router c.args.label
    ∙ ap (λ (xs : List ℕ). set xs c.args.router c.args.label) c.self.view_is
