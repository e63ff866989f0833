use Rattle.std.proofs.Common.{arith, map}
use Rattle.std.proofs.lemmas.List.{length-map}
use Rattle.std.proofs.lemmas.Result.{IfOk-weaker}
use Rattle.desks.proofs.Desking.{doors-all, others-all}
use Rattle.desks.specs.Doors.{door_view}
use Rattle.tree_versions.specs.Solo.{views_of}
use Rattle.desks.proofs.board.serve_doors.Goals as goal

pub returns-clause-served : goal.returns-clause-served
returns-clause-served g c =
    let see = door_view g.D.Door g.D.Client.Source g.D.Client.Sink in
    IfOk-weaker c.serve_on_board.result _ _ (λ served done.
    doors-all c.args.opening.sessions c.args.opening.desks c.min-count.result (views_of served.records.items)
    (record {
      olds = map see c.args.doors.now.items;
      news = map see c.serve_on_board.new.doors.items;
      end = record { clients = served.clients; failed = served.failed };
    })
    (omega (arith, c.min-count.ensures, c.len.ensures, length-map c.args.doors.now.items see)) done)
    c.serve_on_board.ensures.served

pub returns-clause-others : goal.returns-clause-others
returns-clause-others g c =
    others-all c.args.opening.desks c.min-count.result c.args.doors.now.items c.serve_on_board.new.doors.items
    (omega (arith, c.min-count.ensures, c.len.ensures)) c.serve_on_board.ensures.others
