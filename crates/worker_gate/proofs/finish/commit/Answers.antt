use Rattle.std.proofs.Common.{subst, rules}
use Rattle.commit_rule.specs.Tickets.{Begins, IsBegun}
use Rattle.worker_gate.proofs.Finishing.{Turn, IsTurn, turn_enters}
use Rattle.worker_gate.proofs.finish.commit.Goals as goal

pub returns-in-Ticket-clause-entered : goal.returns-in-Ticket-clause-entered
returns-in-Ticket-clause-entered c = turn_enters turn is_turn
  where
    turn : Turn
    turn = record {
      old = c.args.grow.now;
      mid = c.begin.new.grow;
      new = c.settle_known.new.grow;
      router = c.args.router;
      ticket = c.in-Ticket.ticket;
      cut = c.compute-cut.result;
      answer = c.settle_known.result;
    }

    begun : IsBegun c.args.grow.now c.args.router c.begin.new.grow c.in-Ticket.ticket
    begun = subst (Begins c.args.grow.now c.args.router c.begin.new.grow) c.in-Ticket.is c.begin.ensures.answer

    is_turn : IsTurn turn
    is_turn = record {
      begun = begun;
      made = search rules;
      settled = c.settle_known.ensures.answer;
    }
