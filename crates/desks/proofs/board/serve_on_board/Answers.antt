use Rattle.std.proofs.Common.{All, ◌∙◌, ap, subst, sum_by, sym}
use Rattle.std.proofs.lemmas.List.{length-map}
use Rattle.std.specs.Arc.{arc_value}
use Rattle.desks.specs.Doors.{door_view}
use Rattle.desks.proofs.Desking.{closed-served}
use Rattle.tree_versions.specs.Boards.{IsFrontOf, SeatView}
use Rattle.tree_versions.specs.Solo.{views_of}
use Rattle.desks.proofs.board.serve_on_board.Goals as goal

pub returns-clause-served : goal.returns-clause-served
returns-clause-served g c =
    closed-served (λ kit. kit.shelf.seat) (door_view g.D.Door g.D.Client.Source g.D.Client.Sink)
    c.args.means.now.quota c.args.count (views_of c.close_board-records.result.items) _
    (record {
      before = c.in_ok-kits.kits.items;
      after = c.in_ok-kits-2.kits.items;
      first = c.in_ok-kits-2.ensures.first;
      fresh = c.in_ok-kits.ensures.own;
      fronts = subst (λ seats. All (λ seat. IsFrontOf (views_of c.close_board-records.result.items) seat.seen) seats)
          c.leave_seats.ensures c.close_board-records.ensures.fronts;
      own = ap (sum_by (λ (seat : SeatView). seat.own)) (sym c.leave_seats.ensures) ∙ c.close_board-records.ensures.own
          ∙ sym (length-map c.close_board-records.result.items (λ kept. arc_value kept));
      few = c.close_board-records.ensures.sound.few;
    })

pub returns-clause-others : goal.returns-clause-others
returns-clause-others g c = c.in_ok-kits-2.ensures.first.others
