-- A router that is begun and settled with nobody else at the tree is committed.
use Rattle.std.proofs.Common.{◌≡◌, ℕ, true, ◌==◌, List, [], ◌∷◌, ◌++◌, sym, ap, ◌∙◌, subst, arith}
use Rattle.std.proofs.lemmas.Bool.{cases_Bool}
use Rattle.cut_model.specs.Cuts.{RouterSet}
use Rattle.cut_model.specs.Held.{CutView}
use Rattle.cut_model.proofs.Counting.{with_number, with_number-same}
use Rattle.tree_state.specs.History.{entered, entry_of}
use Rattle.tree_state.specs.Views.{GrowingView, tree_in, up_of}
use Rattle.tree_state.specs.declared.entry.Entry.{Entry}
use Rattle.tree_state.proofs.Histories.{entered-push}
use Rattle.commit_rule.specs.Settling.{Settles}
use Rattle.commit_rule.specs.Tickets.{IsBegun}
use Rattle.commit_rule.specs.declared.settling.Settled.{Settled}
use Rattle.commit_rule.specs.declared.settling.Settled.TheVariants.{Committed, Already, Stranger, Moved}
use Rattle.commit_rule.specs.declared.tickets.Ticket.{Ticket}
use Rattle.worker_gate.specs.Building.{IsEntered}
use Rattle.worker_gate.specs.Cutting.{IsCutFor}

-- One more entry is of its router.
entered_here : (history : List Entry) (entry : Entry) → entered (history ++ entry ∷ []) entry.router ≡ true
entered_here history entry =
    entered-push history entry entry.router ∙ with_number-same entry.router (entered history)

with_number-keeps : (s : ℕ) (X : RouterSet) (i : ℕ) → X i ≡ true → with_number s X i ≡ true
unfolding with_number
with_number-keeps s X i is = grind (arith, cases_Bool (i == s), is)

-- With one more entry each router is entered that was.
entered_still : (history : List Entry) (entry : Entry) (r : ℕ) → entered history r ≡ true →
    entered (history ++ entry ∷ []) r ≡ true
entered_still history entry r is =
    entered-push history entry r ∙ with_number-keeps entry.router (entered history) r is

-- A router is begun, cut and settled, with nobody else at the tree between.
pub record Turn : Type 0 where
  pub old : GrowingView
  pub mid : GrowingView
  pub new : GrowingView
  pub router : ℕ
  pub ticket : Ticket
  pub cut : CutView
  pub answer : Settled

pub record IsTurn (t : Turn) : Type 0 where
  pub begun : IsBegun t.old t.router t.mid t.ticket
  pub made : IsCutFor t.mid.net t.ticket t.cut
  pub settled : Settles t.mid t.cut t.new t.answer

-- A cut for a ticket of the tree as it is can't come too late, nor be one of another network. So the router is entered.
pub turn_enters : (t : Turn) → IsTurn t → IsEntered t.old.history t.new.history t.router
turn_enters t turn = by t.answer turn.settled
  where
    routers : t.cut.router ≡ t.router
    routers = turn.made.router_is ∙ turn.begun.router

    entered_mid : (r : ℕ) → entered t.mid.history r ≡ entered t.old.history r
    entered_mid r = ap (λ (g : GrowingView). entered g.history r) turn.begun.state

    -- What is above the router when it is settled is what was above it when it was begun.
    still_above : t.cut.neighbour ≡ up_of (tree_in t.mid) t.cut.router
    still_above =
        turn.made.neighbour_is ∙ turn.begun.neighbour
        ∙ sym (ap (λ (g : GrowingView). up_of (tree_in g) t.router) turn.begun.state)
        ∙ ap (up_of (tree_in t.mid)) (sym routers)

    by : (answer : Settled) → Settles t.mid t.cut t.new answer → IsEntered t.old.history t.new.history t.router
    by Committed settled = record {
      here =
          ap (λ (g : GrowingView). entered g.history t.router) settled.state
          ∙ subst (λ (r : ℕ). entered (t.mid.history ++ entry_of t.cut ∷ []) r ≡ true) routers
          (entered_here t.mid.history (entry_of t.cut));
      still = λ r is.
          ap (λ (g : GrowingView). entered g.history r) settled.state
          ∙ entered_still t.mid.history (entry_of t.cut) r (entered_mid r ∙ is);
    }
    by Already settled = record {
      here =
          ap (λ (g : GrowingView). entered g.history t.router) settled.state
          ∙ subst (λ (r : ℕ). entered t.mid.history r ≡ true) routers settled.committed;
      still = λ r is. ap (λ (g : GrowingView). entered g.history r) settled.state ∙ entered_mid r ∙ is;
    }
    by Stranger settled = absurd (settled.other turn.made.net_is)
    by (Moved from to) settled = absurd (settled.differ (settled.from_is ∙ still_above ∙ sym settled.to_is))
