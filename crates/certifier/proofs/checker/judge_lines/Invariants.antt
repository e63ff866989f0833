use Rattle.std.proofs.Common.{◌≡◌}
use Rattle.certifier.specs.Judging.{Goes, IsSound, to_do}
use Rattle.certifier.proofs.checker.judge_lines.Given as goal

abbrev pub invariant-steps : goal.invariant-steps
invariant-steps g l = record {
  goes : Goes (g.P.LazyPeer.wire l.fn.peer) (g.P.LazyPeer.wire l.peer) l.checker;
  sound : IsSound l.checker;
  written : (g.P.LazyPeer.wire l.peer).written ≡ (g.P.LazyPeer.wire l.fn.peer).written;
  reads : (g.P.LazyPeer.counts l.peer).read_faults ≡ (g.P.LazyPeer.counts l.fn.peer).read_faults;
  writes : (g.P.LazyPeer.counts l.peer).write_faults ≡ (g.P.LazyPeer.counts l.fn.peer).write_faults;
  beside : g.P.LazyPeer.beside_lazy l.peer ≡ g.P.LazyPeer.beside_lazy l.fn.peer;
}

abbrev pub decreases-steps : goal.decreases-steps
decreases-steps g l = to_do l.checker.reader
