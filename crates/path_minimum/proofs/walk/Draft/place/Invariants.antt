use Rattle.std.proofs.Common.{◌≡◌, ℕ, ◌-◌, true, length}
use Rattle.cut_model.specs.Cuts.{set_of}
use Rattle.path_minimum.specs.Stretches.{IsDraftOf}
use Rattle.path_minimum.proofs.walk.Draft.place.Given as goal

-- it is a draft, and what had a place has one
abbrev pub invariant-loop-self : goal.invariant-loop-self
invariant-loop-self l = record {
  draft : IsDraftOf l.finished.tree l.self;
  kept : (c : ℕ) → set_of l.fn.self.placed c ≡ true → set_of l.self.placed c ≡ true;
}

abbrev pub decreases-loop-self : goal.decreases-loop-self
decreases-loop-self l = l.finished.tree.net.routers - length l.self.order.items
