use Rattle.std.proofs.Common.{refl, ◌∙◌, None, Some}
use Rattle.session.proofs.Putting.{PutGoes-join, fill_goes}
use Rattle.session.proofs.Reporting.{held_same}
use Rattle.session.proofs.Stretching.{Stretch-none}
use Rattle.session.specs.Reporting.{ReportLine}
use Rattle.session.specs.Shelved.{shelved}
use Rattle.session.specs.Writing.{point_of}
use Rattle.session.proofs.state.State.write_out.Goals as goal

pub runs-init : goal.runs-init
runs-init g c = record {
  on = λ alone rest. Stretch-none ReportLine alone (point_of (shelved g.H.Shelf c.args.shelf.now) rest
      (record { wire = g.P.LazyPeer.wire c.args.peer.now; work = c.args.self.now.desk }))
      (g.H.Shelf.few c.args.shelf.now);
  held = c.requires.held;
  intake = refl;
  left = refl;
  ended = refl;
  counts = refl;
  beside = refl;
}

pub returns-in-Some-clause-goes : goal.returns-in-Some-clause-goes
returns-in-Some-clause-goes g c = λ alone rest. PutGoes-join alone _ _ _ (Some c.in-Some.turn)
    (c.runs.invariant.on alone rest)
    (c.in-Some.ensures.goes alone (shelved g.H.Shelf c.args.shelf.now) rest (g.H.Shelf.few c.args.shelf.now))

pub returns-then-not-has_more-clause-goes : goal.returns-then-not-has_more-clause-goes
returns-then-not-has_more-clause-goes g c = λ alone rest. PutGoes-join alone _ _ _ None (c.runs.invariant.on alone rest)
    (c.in_default.ensures.goes alone (shelved g.H.Shelf c.args.shelf.now) rest (g.H.Shelf.few c.args.shelf.now))

pub runs-preserved : goal.runs-preserved
runs-preserved g c = let e = c.in_default.ensures in record {
  on = λ alone rest. fill_goes alone (shelved g.H.Shelf c.args.shelf.now) rest _
      (record { wire = g.P.LazyPeer.wire c.put_run.new.peer; work = c.put_run.new.self })
      (g.H.Shelf.few c.args.shelf.now)
      (PutGoes-join alone _ _ _ None (c.runs.invariant.on alone rest)
      (e.goes alone (shelved g.H.Shelf c.args.shelf.now) rest (g.H.Shelf.few c.args.shelf.now)))
      c.fill.new.self.desk e.stops c.fill.ensures.reply c.fill.ensures.leads;
  held = λ some. c.fill.ensures.held;
  intake = c.fill.ensures.intake ∙ c.runs.invariant.intake;
  left = e.left ∙ c.runs.invariant.left;
  ended = e.ended ∙ c.runs.invariant.ended;
  counts = e.counts ∙ c.runs.invariant.counts;
  beside = e.beside ∙ c.runs.invariant.beside;
}

pub returns-in-Some-clause-held : goal.returns-in-Some-clause-held
returns-in-Some-clause-held g c =
    held_same (g.H.Shelf.seen c.args.shelf.now) c.runs.self.desk c.put_run.new.self c.put_run.ensures.reply
    c.put_run.ensures.at c.runs.invariant.held

pub fill-requires-clause-held : goal.fill-requires-clause-held
fill-requires-clause-held g c =
    held_same (g.H.Shelf.seen c.args.shelf.now) c.runs.self.desk c.put_run.new.self c.put_run.ensures.reply
    c.put_run.ensures.at c.runs.invariant.held
