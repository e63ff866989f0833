use Rattle.std.proofs.Common.{◌≡◌, ◌+◌, ◌-◌, ◌∙◌, slice_index, ap, arith}
use Rattle.path_minimum.proofs.Drafting.{IsSpot, drafted-put}
use Rattle.path_minimum.proofs.walk.Draft.put.Goals as goal

pub returns-clause-draft : goal.returns-clause-draft
returns-clause-draft c =
    let tree = c.args.finished.now.tree in
    let self = c.args.self.now in
    let place = c.place_of-place.result + 1 in
    let back : place - 1 ≡ c.place_of-place.result = omega arith in
    let spot : IsSpot tree self.order.items self.placed place c.args.router = record {
      router = c.requires.router;
      free = c.requires.unplaced;
      some = omega arith;
      fits = omega (arith, c.place_of-place.ensures.inside);
      above = ap (slice_index self.order.items) back ∙ c.place_of-place.ensures.router ∙ c.up.ensures.value;
    } in
    rw (c.in_ok-insert.ensures.items, c.put.ensures)
    (drafted-put tree c.requires.tree self.order.items self.placed self.hints.items place c.args.router c.requires.draft
    spot)
