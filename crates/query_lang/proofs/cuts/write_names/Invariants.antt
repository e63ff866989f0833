use Rattle.std.proofs.Common.{◌-◌, Result, drop, length}
use Rattle.query_lang.specs.Replies.{side_names}
use Rattle.wires.specs.Puts.{Puts}
use Rattle.wires.specs.declared.faults.Failed.{Failed}
use Rattle.query_lang.proofs.cuts.write_names.Given as goal

-- A put of the names that are left makes a put of all names.
abbrev pub invariant-loop-from : goal.invariant-loop-from
invariant-loop-from g l =
    let left = side_names (drop l.from l.sheet.names) (drop l.from l.side) in
    let all = side_names l.sheet.names l.side in
    (new : g.row.K.Denot) (result : Result (Unit {0}) Failed)
    → Puts g.K.Sink l.sink new result left
    → Puts g.K.Sink l.fn.sink new result all

abbrev pub decreases-loop-from : goal.decreases-loop-from
decreases-loop-from g l = length l.side - l.from
