use Rattle.std.proofs.Common.{◌≡◌, Bool, []}
use Rattle.session.specs.Points.{Rest, Stretch}
use Rattle.session.specs.Reporting.{IsHeld, ReportLine}
use Rattle.session.specs.Shelved.{shelved}
use Rattle.session.specs.Writing.{point_of}
use Rattle.session.proofs.state.State.write_out.Given as goal

abbrev pub invariant-runs : goal.invariant-runs
invariant-runs g l = record {
  on : (alone : Bool) (rest : Rest) → Stretch ReportLine alone
      (point_of (shelved g.H.Shelf l.fn.shelf) rest
      (record { wire = g.P.LazyPeer.wire l.fn.peer; work = l.fn.self.desk }))
      (point_of (shelved g.H.Shelf l.fn.shelf) rest (record { wire = g.P.LazyPeer.wire l.peer; work = l.self.desk }))
      [];
  held : IsHeld (g.H.Shelf.seen l.fn.shelf) l.self.desk;
  intake : l.self.intake ≡ l.fn.self.intake;
  left : (g.P.LazyPeer.wire l.peer).left ≡ (g.P.LazyPeer.wire l.fn.peer).left;
  ended : (g.P.LazyPeer.wire l.peer).ended ≡ (g.P.LazyPeer.wire l.fn.peer).ended;
  counts : g.P.LazyPeer.counts l.peer ≡ g.P.LazyPeer.counts l.fn.peer;
  beside : g.P.LazyPeer.beside_lazy l.peer ≡ g.P.LazyPeer.beside_lazy l.fn.peer;
}

abbrev pub decreases-runs : goal.decreases-runs
decreases-runs g l = l.self.desk.at.left
