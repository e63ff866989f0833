use Rattle.std.proofs.Common.{◌≡◌, ℕ, [], true, false, refl, arith}
use Rattle.std.proofs.lemmas.Grind.{common_steps}
use Rattle.cut_model.specs.Cuts.{RouterSet, set_of, cut_value, IsLeastCut}
use Rattle.cut_model.specs.Net.{Net}
use Rattle.path_minimum.proofs.tests.commit.Goals as goal

-- without links a set costs nothing
cut_value-linkless : (net : Net) (X : RouterSet) → net.links ≡ [] → cut_value net X ≡ 0
unfolding cut_value
cut_value-linkless net X none = rw none refl

-- so each set that parts two routers is a least cut of the two
linkless_cut : (net : Net) (s t : ℕ) (X : RouterSet) → X s ≡ true → X t ≡ false → net.links ≡ []
    → IsLeastCut net s t X 0
linkless_cut net s t X holds lacks none = record {
  holds = holds;
  lacks = lacks;
  value = cut_value-linkless net X none;
  least = λ Y y_holds y_lacks. omega arith;
}

pub hold-requires-clause-least : goal.hold-requires-clause-least
hold-requires-clause-least g c =
    let none : c.deref-5.result.now.links ≡ [] = grind (arith, common_steps) in
    linkless_cut c.deref-5.result.now c.args.router c.neighbour-neighbour.result (set_of c.side_of-side.result)
    (grind (arith, common_steps)) (grind (arith, common_steps)) none
