use Rattle.std.proofs.Common.{arith}
use Rattle.cut_model.specs.Cuts.{set_of}
use Rattle.cut_model.proofs.Costs.{cut_value-most}
use Rattle.cut_model.proofs.least_cut.LeastCut.value.Goals as goal

-- the value is what the side costs
pub returns-clause-most : goal.returns-clause-most
returns-clause-most c =
    let held = c.self.invariant in
    omega (arith, held.least.value, cut_value-most _ held.limits (set_of c.self.inside.side))
