use Rattle.std.proofs.Common.{map, take, Ok}
use Rattle.std.specs.List.{concat}
use Rattle.network_text.specs.Writing.{router_text}
use Rattle.wires.specs.Puts.{Puts}
use Rattle.wires.specs.declared.faults.Failed.{Failed}
use Rattle.network_text.proofs.write.write_routers.Given as goal

-- The lines of the routers so far are put.
abbrev pub invariant-loop-router : goal.invariant-loop-router
invariant-loop-router g l =
    let put = concat (map router_text (take l.router l.sheet.names)) in
    Puts {E = Failed} g.K.Sink l.fn.sink l.sink (Ok tt) put
