use Rattle.std.proofs.Common.{◌-◌, ◌≤◌, length}
use Rattle.query_lang.specs.Runs.{AreOthers}
use Rattle.query_lang.proofs.runs.next_router.Given as goal

-- None of the routers so far is sought.
abbrev pub invariant-loop-router : goal.invariant-loop-router
invariant-loop-router l = record {
  behind : l.fn.from ≤ l.router;
  others : AreOthers l.side l.inside l.fn.from l.router;
}

abbrev pub decreases-loop-router : goal.decreases-loop-router
decreases-loop-router l = length l.side - l.router
