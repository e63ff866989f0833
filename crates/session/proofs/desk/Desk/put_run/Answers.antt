use Rattle.std.proofs.Common.{refl, ◌∙◌}
use Rattle.session.proofs.Putting.{put_breaks, put_counts, put_goes}
use Rattle.session.proofs.Stretching.{Stretch-none}
use Rattle.session.specs.Reporting.{ReportLine}
use Rattle.session.specs.Writing.{point_of}
use Rattle.session.proofs.desk.Desk.put_run.Goals as goal

pub puts-init : goal.puts-init
puts-init g c = record {
  on = λ alone shelf rest few. Stretch-none ReportLine alone
      (point_of shelf rest (record { wire = g.P.LazyPeer.wire c.args.peer.now; work = c.args.self.now })) few;
  reply = refl;
  at = refl;
  left = refl;
  ended = refl;
  counts = refl;
  beside = refl;
}

pub puts-preserved : goal.puts-preserved
puts-preserved g c = record {
  on = λ alone shelf rest few. put_goes alone shelf rest _
      (record { wire = g.P.LazyPeer.wire c.puts.peer; work = c.puts.self }) few
      (c.puts.invariant.on alone shelf rest few)
      (g.P.LazyPeer.wire c.put_now.new.self) c.pass.new.self c.in-Bytes.count c.rest-rest.result.now c.rest-rest.ensures
      c.in-Bytes.ensures.tells
      (record { run = c.pass.ensures.run; reply = c.pass.ensures.reply; at = c.pass.ensures.at });
  reply = c.pass.ensures.reply ∙ c.puts.invariant.reply;
  at = c.pass.ensures.at ∙ c.puts.invariant.at;
  left = c.in-Bytes.ensures.tells.left ∙ c.puts.invariant.left;
  ended = c.in-Bytes.ensures.tells.ended ∙ c.puts.invariant.ended;
  counts = put_counts c.in-Bytes.count _ _ c.in-Bytes.ensures.counts ∙ c.puts.invariant.counts;
  beside = c.in-Bytes.ensures.beside ∙ c.puts.invariant.beside;
}

pub returns-in-Failed-clause-goes : goal.returns-in-Failed-clause-goes
returns-in-Failed-clause-goes g c = λ alone shelf rest few. put_breaks alone shelf rest _
    (record { wire = g.P.LazyPeer.wire c.puts.peer; work = c.puts.self }) few (c.puts.invariant.on alone shelf rest few)
    (g.P.LazyPeer.wire c.put_now.new.self) c.rest-rest.result.now c.rest-rest.ensures c.in-Failed.ensures.tells
