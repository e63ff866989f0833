use Rattle.std.proofs.Common.{◌≡◌, None}
use Rattle.late_sessions.proofs.serve.Given as goal
use Rattle.session.specs.Reporting.{IsHeld}

-- the session hasn't ended, and its shelf has the record of a reply in work
abbrev pub invariant-turns : goal.invariant-turns
invariant-turns g l = (l.task.ended ≡ None) × IsHeld l.shelf.records l.task.kept.work
