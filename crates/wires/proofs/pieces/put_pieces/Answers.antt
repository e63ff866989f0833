use Rattle.std.proofs.Common.{ℕ, List, [], ◌≡◌, ◌+◌, Ok, Err, Result, take, drop, map, get_or, sym, subst}
use Rattle.std.proofs.Common.{take_all}
use Rattle.std.specs.List.{concat}
use denote.Bor.{Bor}
use Rattle.wires.specs.declared.faults.Failed.{Failed}
use Rattle.wires.specs.Puts.{Puts}
use Rattle.wires.proofs.Joins.{concat_more, concat_around}
use Rattle.wires.proofs.Puts.{puts_none, puts_then, puts_failed}
use Rattle.wires.proofs.pieces.put_pieces.Goals as goal

-- the text of a piece, and the piece that stands for one past the end
text : Bor (List ℕ) → List ℕ
text piece = piece.now

no_piece : Bor (List ℕ)
no_piece = record { ref_ptr = (0, 0); now = [] }

pub loop-piece-init : goal.loop-piece-init
loop-piece-init g c = puts_none _ _

pub loop-piece-preserved : goal.loop-piece-preserved
unfolding text no_piece
loop-piece-preserved g c =
    let k = g.K.Sink in
    let Put : g.row.K.Denot → List ℕ → Type 0 =
    λ old whole. Puts {E = Failed} k old c.put.new.self (Ok tt) whole in
    let pieces = c.args.pieces.now in
    let i = c.loop-piece.piece-index in
    let put = c.in_ok-put.ensures in
    let one : Put c.loop-piece.sink (text (get_or pieces i no_piece)) =
    record { bytes = put.bytes; cause = put.cause; beside = put.beside; sure = put.sure; room = put.room } in
    let more = concat_more text pieces i no_piece c.loop-piece-test.true in
    subst (Put c.args.sink.now) (sym more) (puts_then _ _ c.loop-piece.invariant one)

pub returns : goal.returns
returns g c =
    let i = c.loop-piece.piece-index in
    let whole : take i c.args.pieces.now ≡ c.args.pieces.now = take_all _ _ c.loop-piece-test.false in
    record { puts = rw whole at c.loop-piece.invariant }

pub returns-in_err-put : goal.returns-in_err-put
unfolding text no_piece
returns-in_err-put g c =
    let k = g.K.Sink in
    let Put : g.row.K.Denot → Result (Unit {0}) Failed → List ℕ → Type 0 =
    λ old result whole. Puts k old c.put.new.self result whole in
    let pieces = c.args.pieces.now in
    let i = c.loop-piece.piece-index in
    let piece = text (get_or pieces i no_piece) in
    let rest = concat (map text (drop (i + 1) pieces)) in
    let put = c.in_err-put.ensures in
    let one : Put c.loop-piece.sink (Err c.in_err-put.field-0.0) piece =
    record { bytes = put.bytes; cause = put.cause; beside = put.beside; sure = put.sure; room = put.room } in
    let end = c.from_residual in
    let failed = puts_failed piece rest end.result end.ensures.0 one in
    let around = concat_around text pieces i no_piece c.loop-piece-test.true in
    record {
      puts = subst (Put c.args.sink.now end.result) (sym around) (puts_then _ _ c.loop-piece.invariant failed);
    }
