use Rattle.std.proofs.Common.{◌∙◌, inl, sym}
use Rattle.desks.proofs.Desking.{served-rose}
use Rattle.planner_server.proofs.Ending.{fault_failed, quiet_done}
use Rattle.planner_server.proofs.planner.serve.Goals as goal

pub returns-clause-completes : goal.returns-clause-completes
returns-clause-completes g c quiet sound =
    let written = c.put_served-written in
    inl (c.status_behind.ensures
    ∙ quiet_done c.in-Ok.served.failed written.result _ _ written.ensures.cause quiet
    (λ failed. sound (served-rose _ _ _ _ c.in-Ok.ensures.served failed)))

pub returns-clause-door_cause : goal.returns-clause-door_cause
returns-clause-door_cause g c is =
    served-rose _ _ _ _ c.in-Ok.ensures.served
    (fault_failed c.in-Ok.served.failed c.put_served-written.result (sym c.status_behind.ensures ∙ is))
