use Rattle.std.proofs.Common.{map, take, Ok}
use Rattle.std.specs.List.{concat}
use Rattle.network_text.specs.Writing.{link_text}
use Rattle.wires.specs.Puts.{Puts}
use Rattle.wires.specs.declared.faults.Failed.{Failed}
use Rattle.network_text.proofs.write.write_links.Given as goal

-- The lines of the links so far are put.
abbrev pub invariant-loop-link : goal.invariant-loop-link
invariant-loop-link g l =
    let put = concat (map (link_text l.sheet.names) (take l.link-index l.sheet.net.links)) in
    Puts {E = Failed} g.K.Sink l.fn.sink l.sink (Ok tt) put
