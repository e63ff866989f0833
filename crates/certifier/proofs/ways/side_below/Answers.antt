use Rattle.certifier.specs.Ways.{AreDecidedFor}
use Rattle.certifier.proofs.Hanging.{marked_start, decided_start, decided_shows}
use Rattle.certifier.proofs.ways.side_below.Goals as goal

pub decide_all-requires : goal.decide_all-requires
decide_all-requires c =
    rw (
      c.put.ensures,
      c.decide.ensures.decided,
      c.decide.ensures.inside,
      c.empty-decided.ensures,
      c.empty-inside.ensures,
    )
    (marked_start c.args.root c.args.up.now c.requires.hang c.args.child)

pub returns : goal.returns
returns c =
    let start : AreDecidedFor c.args.up.now c.args.child c.put.new.self c.decide.new.inside =
    rw (
      c.put.ensures,
      c.decide.ensures.decided,
      c.decide.ensures.inside,
      c.empty-decided.ensures,
      c.empty-inside.ensures,
    )
    (decided_start c.args.root c.args.up.now c.requires.hang c.args.child c.requires.child) in
    decided_shows c.args.up.now c.args.child c.decide_all.new.decided c.decide_all.new.inside
    c.decide_all.ensures.marked
    (c.decide_all.ensures.decided c.args.child start) c.decide_all.ensures.all
