-- What a router is answered that is to be committed, and what that leaves of the tree.
use Rattle.std.specs.Prelude.{◌≡◌, ◌≢◌, ℕ, ◌<◌, true, false, slice_set}
use Rattle.tree_state.specs.History.{entered}
use Rattle.tree_state.specs.Views.{GrowingView, tree_in, up_of}
use Rattle.commit_rule.specs.declared.tickets.Begun.{Begun}
use Rattle.commit_rule.specs.declared.tickets.Begun.TheVariants as answers
use Rattle.commit_rule.specs.declared.tickets.Ticket.{Ticket}

-- Router s was committed already, and nothing changes.
pub record IsDone (old : GrowingView) (s : ℕ) (new : GrowingView) : Type 0 where
  pub committed : entered old.history s ≡ true
  pub state : new ≡ old

-- Router s isn't committed. The ticket names it and the router above it, another one, which counts as read from then
-- on. All else stays.
pub record IsBegun (old : GrowingView) (s : ℕ) (new : GrowingView) (ticket : Ticket) : Type 0 where
  pub fresh : entered old.history s ≡ false
  pub router : ticket.router ≡ s
  pub neighbour : ticket.neighbour ≡ up_of (tree_in old) s
  pub differ : ticket.router ≢ ticket.neighbour
  pub router_in : ticket.router < old.net.routers
  pub neighbour_in : ticket.neighbour < old.net.routers
  pub state : new ≡ record old { last_read = slice_set old.last_read s (up_of (tree_in old) s) }

-- What each answer says, which is exactly where it comes.
abbrev pub Begins : GrowingView → ℕ → GrowingView → Begun → Type 0
Begins old s new answers.Already = IsDone old s new
Begins old s new (answers.Ticket ticket) = IsBegun old s new ticket
