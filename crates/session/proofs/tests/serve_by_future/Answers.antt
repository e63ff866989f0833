use Rattle.std.proofs.Common.{◌≡◌, List, [], ◌∷◌, ℕ, rules, subst}
use denote.Ref.{MutBor}
use Rattle.std.specs.Fn.{Called}
use Rattle.futures.specs.Poll.{OnPending}
use Rattle.futures.specs.Polling.{Obeys, Poller, PollsWell, Waited}
use Rattle.futures.specs.Task.{Covers, IsArmed}
use Rattle.futures.specs.declared.task.Poll.{Poll}
use Rattle.futures.specs.declared.task.Poll.TheVariants.{Pending, Ready}
use Rattle.futures.specs.declared.task.context.Context.{Context}
use Rattle.session.specs.Tasks.{CanTurn}
use Rattle.session.proofs.tests.serve_by_future.Goals as goal

-- a pending poll that covers what it needs is armed
armed : {A : Type 0} (r : Poll A) (cx : Context) (needs : ℕ → Type 0) → OnPending r (Covers cx needs)
    → OnPending r (IsArmed cx)
armed (Ready x) cx needs covers = tt
armed Pending cx needs covers = covers.0

module _ {F A : Type 0} (g : Poller F A) (Can : F → Type 0)
    (keeps : (p : F) (cx left : MutBor Context) (q : F) → Can p → Called g p (cx, tt) (Pending, (left, tt)) q → Can q)
  where
    -- pending calls lead from a state that can be polled to such states
    reached : (before : List (MutBor Context)) (p q : F) → Can p → Waited g p before q → Can q
    reached [] p q can waited = subst Can waited can
    reached (cx ∷ before) p q can waited =
        reached before waited.0 q (keeps p cx waited.1.0 waited.0 can waited.1.1) waited.2

pub block_on-requires : goal.block_on-requires
block_on-requires g c = record {
  at = λ before q cx waited.
      let can : CanTurn (g.H.Shelf.seen q.0.shelf.now) q.0.task = reached _
      (λ f. CanTurn (g.H.Shelf.seen f.0.shelf.now) f.0.task)
      (λ p lent left t can called. search rules) before _ q (search rules) waited in
      (search rules, λ r left t called. (search rules, armed r left.now (λ _. ⊥) (search rules)));
}
