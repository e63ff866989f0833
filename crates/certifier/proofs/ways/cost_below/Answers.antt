use Rattle.std.proofs.Common.{◌∙◌, length, arith}
use Rattle.std.specs.Prelude.{slice_index}
use Rattle.cut_model.specs.Cuts.{set_of}
use Rattle.cut_model.proofs.Costs.{cut_value-same}
use Rattle.tree_state.specs.Tables.{below}
use Rattle.certifier.proofs.ways.cost_below.Goals as goal

pub returns : goal.returns
returns c =
    c.value_of.ensures
    ∙ cut_value-same c.args.net.now c.requires.limits (set_of c.side_below.result)
    (below (length c.args.up.now) (slice_index c.args.up.now) c.args.child)
    (λ r low. c.side_below.ensures.shows r (omega (arith, low, c.requires.size)))
