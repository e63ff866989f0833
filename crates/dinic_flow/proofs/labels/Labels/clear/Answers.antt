-- The base rises past all numbers.
use Rattle.std.proofs.Common.{ℕ, ◌+◌, length, replicate, sym, ap, ◌∙◌}
use Rattle.std.proofs.lemmas.List.{length-map}
use Rattle.dinic_flow.specs.declared.labels.TheConstants.{MOST_LABEL}
use Rattle.dinic_flow.proofs.Bases.{labels_above-none}
use Rattle.dinic_flow.proofs.labels.Labels.clear.Goals as goal

pub returns-else-self : goal.returns-else-self
returns-else-self c =
    let numbers = c.self.inside.numbers.items in
    labels_above-none (c.self.inside.base + MOST_LABEL) numbers (λ i within. c.self.invariant.most i 0 within)
    ∙ ap (λ (n : ℕ). replicate n 0) (sym (length-map numbers _) ∙ ap length c.self.view_is)
