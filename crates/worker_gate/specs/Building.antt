-- What the workers of a build do.
use Rattle.std.specs.Prelude.{◌≡◌, ◌≢◌, ℕ, ◌<◌, true, List, ⊤}
use Rattle.cut_model.specs.Net.{Net}
use Rattle.cut_model.specs.Terminals.{IsTerminal, root_of}
use Rattle.commit_rule.specs.declared.settling.Settled.{Settled}
use Rattle.commit_rule.specs.declared.settling.Settled.TheVariants as settled
use Rattle.commit_rule.specs.declared.tickets.Begun.{Begun}
use Rattle.commit_rule.specs.declared.tickets.Begun.TheVariants as begun
use Rattle.commit_rule.specs.declared.tickets.Ticket.{Ticket}
use Rattle.tree_state.specs.History.{entered}
use Rattle.tree_state.specs.declared.entry.Entry.{Entry}
use Rattle.worker_gate.specs.Cutting.{IsTicketIn}

-- A router that is to be committed: a terminal that isn't the root.
pub record IsJob (net : Net) (router : ℕ) : Type 0 where
  pub terminal : IsTerminal net router
  pub not_root : router ≢ root_of net

-- A ticket that was given for a router.
pub record IsTicketOf (net : Net) (router : ℕ) (ticket : Ticket) : Type 0 where
  pub ticket_in : IsTicketIn net ticket
  pub router_is : ticket.router ≡ router

-- Where a router is begun, the ticket is one of the network, for that router.
abbrev pub MayCut : Net → ℕ → Begun → Type 0
MayCut net router begun.Already = ⊤
MayCut net router (begun.Ticket ticket) = IsTicketOf net router ticket

-- How many commits an answer of `settle` means.
abbrev pub commits_of : Settled → ℕ
commits_of settled.Committed = 1
commits_of settled.Already = 0
commits_of settled.Stranger = 0
commits_of (settled.Moved from to) = 0

-- Each terminal below a number, but the root, is committed.
pub record IsDoneTo (net : Net) (history : List Entry) (number : ℕ) : Type 0 where
  pub done : (r : ℕ) → r < number → IsTerminal net r → r ≢ root_of net → entered history r ≡ true

-- In the new history a router has an entry, and so has each one that had one in the old.
pub record IsEntered (old new : List Entry) (router : ℕ) : Type 0 where
  pub here : entered new router ≡ true
  pub still : (r : ℕ) → entered old r ≡ true → entered new r ≡ true
