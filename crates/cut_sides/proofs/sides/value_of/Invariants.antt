use Rattle.std.proofs.Common.{◌≡◌, ◌*◌, ◌≤◌, take}
use Rattle.std.specs.Prelude.{sum_by}
use Rattle.cut_model.specs.declared.network.TheConstants.{MOST_CAPACITY}
use Rattle.cut_model.specs.Cuts.{across, set_of}
use Rattle.cut_sides.proofs.sides.value_of.Given as goal

abbrev pub invariant-loop-link : goal.invariant-loop-link
invariant-loop-link l = record {
  total : l.sum ≡ sum_by (across (set_of l.side)) (take l.link-index l.link-items);
  small : l.sum ≤ MOST_CAPACITY * l.link-index;
}
