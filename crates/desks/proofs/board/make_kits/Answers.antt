use Rattle.std.proofs.Common.{rules, ap, arith}
use Rattle.std.proofs.lemmas.List.Elements.{All-pop}
use Rattle.desks.proofs.Desking.{sum-last}
use Rattle.desks.proofs.board.make_kits.Goals as goal
use Rattle.tree_versions.specs.Boards.{IsNew, SeatView}

pub loop-seat-preserved : goal.loop-seat-preserved
loop-seat-preserved g c =
    let new = All-pop IsNew _ _ _ c.pop.ensures.items c.loop-seat.invariant.2 in
    let seat : IsNew c.in-Some.seat = rw c.in-Some.is at new.1 in
    let sum = sum-last (λ kit. kit.shelf.seat.own) c.loop-seat.kits.items _ c.push_reserved.new.self.items
    c.push_reserved.ensures.items in (
      search rules,
      search rules,
      new.0,
      omega (arith, sum, c.loop-seat.invariant.3, ap (λ (s : SeatView). s.own) c.make-shelf.ensures, seat.own),
      search rules,
      search rules,
    )
