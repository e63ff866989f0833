use Rattle.std.proofs.Common.{◌+◌, ◌-◌, ◌*◌, ◌<◌, get_or}
use Rattle.dinic_flow.specs.Phases.{moment_of, aim_of, tally_of}
use Rattle.dinic_flow.proofs.Passing.{IsPassing}
use Rattle.dinic_flow.proofs.Paying.{HasPaid}
use Rattle.dinic_flow.proofs.blocking.+blocking.Given as goal

abbrev pub decreases-send : goal.decreases-send
decreases-send g l = 3 * (get_or l.label.now l.t 0 - get_or l.label.now l.router 0)

abbrev pub decreases-send_on : goal.decreases-send_on
decreases-send_on g l = 3 * (get_or l.label.now l.t 0 - get_or l.label.now l.router 0) + 1

abbrev pub decreases-send_over : goal.decreases-send_over
decreases-send_over g l = 3 * (get_or l.label.now l.t 0 - l.next) + 2

abbrev pub invariant-send-loop-at : goal.invariant-send-loop-at
invariant-send-loop-at g l = record {
  passing :
      IsPassing (aim_of l.threshold l.t l.label) (moment_of l.fn.graph l.fn.cursor) (moment_of l.graph l.cursor)
      l.router l.sent l.at;
  some : l.sent < l.limit;
  paid :
      HasPaid (get_or l.label l.t 0 - (get_or l.label l.router 0 + 1)) (get_or l.fn.cursor l.router 0) l.at
      (tally_of l.fn.cursor l.fn.steps) (tally_of l.cursor l.steps);
}
