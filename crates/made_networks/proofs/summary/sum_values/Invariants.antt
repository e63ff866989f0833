use Rattle.std.proofs.Common.{◌≡◌, ◌-◌, ◌*◌, ◌≤◌}
use Rattle.cut_model.specs.declared.network.TheConstants.{MOST_VALUE}
use Rattle.made_networks.specs.Summaries.{sum_from_first}
use Rattle.made_networks.proofs.summary.sum_values.Given as goal

-- the sum for the routers before this one, which is not large
abbrev pub invariant-loop-router : goal.invariant-loop-router
invariant-loop-router l = record {
  so_far : l.sum ≡ sum_from_first l.finished.tree.net (l.router - 1);
  most : l.sum ≤ (l.router - 1) * MOST_VALUE;
}
