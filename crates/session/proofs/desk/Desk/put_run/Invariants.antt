use Rattle.std.proofs.Common.{◌≡◌, ◌≤◌, Bool, length, []}
use Rattle.session.specs.Points.{Rest, Stretch}
use Rattle.session.specs.Reporting.{ReportLine}
use Rattle.session.specs.Shelved.{Shelved}
use Rattle.session.specs.Writing.{point_of}
use Rattle.tree_versions.specs.declared.shelf.TheConstants.{MOST_RECORDS}
use Rattle.session.proofs.desk.Desk.put_run.Given as goal

abbrev pub invariant-puts : goal.invariant-puts
invariant-puts g l = record {
  on : (alone : Bool) (shelf : Shelved) (rest : Rest) → length shelf.seen ≤ MOST_RECORDS
      → Stretch ReportLine alone
      (point_of shelf rest (record { wire = g.P.LazyPeer.wire l.fn.peer; work = l.fn.self }))
      (point_of shelf rest (record { wire = g.P.LazyPeer.wire l.peer; work = l.self })) [];
  reply : l.self.reply ≡ l.fn.self.reply;
  at : l.self.at ≡ l.fn.self.at;
  left : (g.P.LazyPeer.wire l.peer).left ≡ (g.P.LazyPeer.wire l.fn.peer).left;
  ended : (g.P.LazyPeer.wire l.peer).ended ≡ (g.P.LazyPeer.wire l.fn.peer).ended;
  counts : g.P.LazyPeer.counts l.peer ≡ g.P.LazyPeer.counts l.fn.peer;
  beside : g.P.LazyPeer.beside_lazy l.peer ≡ g.P.LazyPeer.beside_lazy l.fn.peer;
}

abbrev pub decreases-puts : goal.decreases-puts
decreases-puts g l = length l.self.run
