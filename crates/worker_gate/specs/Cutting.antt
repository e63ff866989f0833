-- What a gate is asked for, and what it answers.
use Rattle.std.specs.Prelude.{◌≡◌, ◌≢◌, ◌<◌}
use Rattle.cut_model.specs.Cuts.{IsLeastSide, set_of}
use Rattle.cut_model.specs.Held.{CutView}
use Rattle.cut_model.specs.Net.{Net}
use Rattle.commit_rule.specs.declared.tickets.Ticket.{Ticket}

-- The ticket's two routers are two of the network.
pub record IsTicketIn (net : Net) (ticket : Ticket) : Type 0 where
  pub differ : ticket.router ≢ ticket.neighbour
  pub router_in : ticket.router < net.routers
  pub neighbour_in : ticket.neighbour < net.routers

-- A cut of the network for a ticket: its side is the least one.
pub record IsCutFor (net : Net) (ticket : Ticket) (cut : CutView) : Type 0 where
  pub net_is : cut.net ≡ net
  pub router_is : cut.router ≡ ticket.router
  pub neighbour_is : cut.neighbour ≡ ticket.neighbour
  pub least : IsLeastSide net ticket.router ticket.neighbour (set_of cut.side) cut.value
