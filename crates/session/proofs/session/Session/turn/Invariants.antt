use Rattle.std.proofs.Common.{◌≡◌, ℕ, List}
use Rattle.std.specs.declared.option.Option.{Option}
use Rattle.session.specs.Reporting.{IsHeld}
use Rattle.session.specs.Shelved.{shelved}
use Rattle.session.specs.Steps.{Gone, here_at, to_do}
use Rattle.session.specs.Turns.{MayBe, point_at}
use Rattle.session.proofs.session.Session.turn.Given as goal

abbrev pub invariant-steps : goal.invariant-steps
invariant-steps g l = record {
  on : (open_text : Option (List (List ℕ))) (bytes : List ℕ)
      → MayBe (here_at (shelved g.H.Shelf l.fn.shelf) (g.P.LazyPeer.wire l.fn.peer) l.fn.self) open_text bytes
      → Gone (g.H.Shelf.alone l.fn.shelf)
      (point_at (here_at (shelved g.H.Shelf l.fn.shelf) (g.P.LazyPeer.wire l.fn.peer) l.fn.self) open_text bytes)
      (here_at (shelved g.H.Shelf l.shelf) (g.P.LazyPeer.wire l.peer) l.self);
  held : IsHeld (g.H.Shelf.seen l.shelf) l.self.work;
  counts : g.P.LazyPeer.counts l.peer ≡ g.P.LazyPeer.counts l.fn.peer;
  alone : g.H.Shelf.alone l.shelf ≡ g.H.Shelf.alone l.fn.shelf;
  beside : g.P.LazyPeer.beside_lazy l.peer ≡ g.P.LazyPeer.beside_lazy l.fn.peer;
}

abbrev pub decreases-steps : goal.decreases-steps
decreases-steps g l = to_do l.self.reader
