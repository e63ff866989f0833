use Rattle.std.proofs.Common.{◌≡◌, ◌++◌, ◌∷◌, [], List, rules}
use Rattle.std.specs.Arc.{arc_value}
use Rattle.tree_versions.proofs.Telling.{tells_of-push}
use Rattle.tree_versions.proofs.publisher.place.Goals as goal
use Rattle.tree_versions.specs.Records.{RecordView, Grows}

pub returns-clause-placed : goal.returns-clause-placed
returns-clause-placed g c =
    let list : List RecordView = c.note.inside.front in
    let grows : Grows c.args.seat.now.seen list = search rules in
    let push : c.make.result ≡ list ++ arc_value c.args.new.now ∷ [] = search rules in
    (tells_of-push c.args.seat.now.seen list c.make.result (arc_value c.args.new.now) grows push, search rules)
