-- What the steps of a blocking flow cost, in numbers alone.
use Rattle.std.proofs.Common.{◌≡◌, ℕ, ◌+◌, ◌*◌, ◌≤◌, ap, arith}
use Rattle.dinic_flow.specs.Phases.{Tally, Costs}

-- From the one tally to the other a router passed its places from one up to another, and the steps are at most
-- two for each of these and what the routers cost to which they lead, with k levels above them.
abbrev pub HasPaid : ℕ → ℕ → ℕ → Tally → Tally → Type 0
HasPaid k from at first now =
    now.steps + 2 * (k * first.places) + 2 * (k * from) + 2 * from
    ≤ first.steps + 2 * (k * now.places) + 2 * (k * at) + 2 * at

-- One place more costs two steps of its own, and those of the router that it leads to.
pub pays-place : (k from at : ℕ) (first now next : Tally) → HasPaid k from at first now →
    Costs k (record { places = now.places; steps = now.steps + 2 }) next → HasPaid k from (at + 1) first next
pays-place k from at first now next paid more = omega arith

-- All places that were passed are paid for, where the router's cursor is put behind them.
pub pays-passed : (k from at places : ℕ) (first now : Tally) → places + from ≡ now.places + at →
    HasPaid k from at first now → first.places ≤ now.places →
    Costs (k + 1) first (record { places = places; steps = now.steps })
pays-passed k from at places first now moved paid grows = omega (arith, ap (λ x. k * x) moved)

-- So they are where the last place wasn't passed.
pub pays-last : (k from at places : ℕ) (first now : Tally) → places + from ≡ now.places + at →
    HasPaid k from (at + 1) first now → first.places ≤ now.places →
    Costs (k + 1) first (record { places = places; steps = now.steps })
pays-last k from at places first now moved paid grows = omega (arith, ap (λ x. k * x) moved)
