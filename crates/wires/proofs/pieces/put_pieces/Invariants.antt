use Rattle.std.proofs.Common.{map, take, Ok}
use Rattle.std.specs.List.{concat}
use Rattle.wires.specs.declared.faults.Failed.{Failed}
use Rattle.wires.specs.Puts.{Puts}
use Rattle.wires.proofs.pieces.put_pieces.Given as goal

abbrev pub invariant-loop-piece : goal.invariant-loop-piece
invariant-loop-piece g l =
    let put = concat (map (λ p. p.now) (take l.piece-index l.pieces)) in
    Puts {E = Failed} g.K.Sink l.fn.sink l.sink (Ok tt) put
