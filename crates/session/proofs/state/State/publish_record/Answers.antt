use Rattle.std.proofs.Common.{Ok}
use Rattle.std.specs.Arc.{arc_value}
use Rattle.session.proofs.Answering.{IsLook-trans}
use Rattle.session.proofs.Loading.{full_loads, stands_loads, want_loads}
use Rattle.session.proofs.state.State.publish_record.Goals as goal

pub returns-in-Ok-clause-loads : goal.returns-in-Ok-clause-loads
returns-in-Ok-clause-loads g c =
    let published = c.in-Ok.ensures.published in
    stands_loads (arc_value c.args.new) c.in-Ok.version
    (record { stands = published.0; counted = published.1; few = g.H.Shelf.few c.publish.new.self })
    (c.tell_loaded.ensures.reply (arc_value c.args.new) published.0.place)

pub returns-in-Err-Full-clause-loads : goal.returns-in-Err-Full-clause-loads
returns-in-Err-Full-clause-loads g c =
    let published = rw c.in-Err-Full.field-0-is at c.in-Err-Full.ensures.published in
    full_loads (record { looks = published.0.looks; kept = published.1; few = g.H.Shelf.few c.publish.new.self })
    (arc_value c.args.new).sheet published.0.full c.refuse.ensures.reply

pub returns-in-Err-NoMemory-clause-loads : goal.returns-in-Err-NoMemory-clause-loads
returns-in-Err-NoMemory-clause-loads g c =
    let published = rw c.in-Err-NoMemory.field-0-is at c.in-Err-NoMemory.ensures.published in
    want_loads
    (IsLook-trans _ _ _ _
    (record { looks = published.0; kept = published.1; few = g.H.Shelf.few c.publish.new.self })
    (rw c.in-Err-NoMemory.ensures.alone at c.refuse_load.ensures.looks))
    (Ok (arc_value c.args.new).sheet) c.refuse_load.ensures.reply
