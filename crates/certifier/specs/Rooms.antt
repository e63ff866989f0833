-- The room of a flow.
use Rattle.std.specs.Prelude.{[]}
use Rattle.cut_model.specs.declared.network.TheConstants.{MOST_LINKS, MOST_ROUTERS}
use Rattle.dinic_flow.specs.Room.{Room}
use Rattle.certifier.specs.Blocks.{Carried}

-- Room for the largest network.
abbrev pub most_room : Room
most_room = record { routers = MOST_ROUTERS; links = MOST_LINKS }

-- What is carried before any flow was made: a network of one router and no link.
abbrev pub no_flow : Carried
no_flow = record { net = record { routers = 1; links = [] }; flow = [] }
