use Rattle.std.proofs.Common.{◌≡◌, ◌*◌, ◌≤◌, take}
use Rattle.std.specs.Prelude.{sum_by}
use Rattle.cut_model.specs.declared.network.TheConstants.{MOST_CAPACITY}
use Rattle.residual_graph.specs.Arcs.{arcs_from, cap_of}
use Rattle.residual_graph.proofs.residual.Residual.around.Given as goal

abbrev pub invariant-loop-place : goal.invariant-loop-place
invariant-loop-place l = record {
  total : l.sum ≡ sum_by (cap_of l.self.net) (take l.place-index (arcs_from l.self.net l.router));
  small : l.sum ≤ MOST_CAPACITY * l.place-index;
}
