use Rattle.std.proofs.Common.{ℕ, List, arith, get_or, length, refl, subst, sym}
use Rattle.std.proofs.lemmas.Option.{get_or_from_slice_get, slice_get_read}
use Rattle.tree_versions.proofs.closing.know_fronts.Goals as goal
use Rattle.tree_versions.specs.Boards.{SeatView, IsFrontOf}
use Rattle.tree_versions.specs.Records.{RecordView}
use borrow.Author.Count.{below_more}

pub loop-seat-preserved : goal.loop-seat-preserved
loop-seat-preserved g c k d low =
    let seats : List SeatView = c.args.seats.now in
    let list : List RecordView = c.args.list.now in
    let i = c.loop-seat.seat-index in
    let seat : SeatView = c.seat-item.result in
    let at = slice_get_read seats (length seats) i seat refl (omega arith) c.seat-item.is in
    let this : IsFrontOf list seat.seen =
    subst (λ (s : List RecordView). IsFrontOf list s) c.front.ensures c.know_front.ensures in
    let IsKnown : ℕ → Type 0 = λ j. (e : SeatView) → IsFrontOf list (get_or seats j e).seen in
    below_more IsKnown i (λ j less e. c.loop-seat.invariant j e less)
    (λ e. subst (λ (s : SeatView). IsFrontOf list s.seen) (sym (get_or_from_slice_get seats i seat e at)) this)
    k low d
