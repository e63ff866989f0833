-- Flows that get larger by what is sent.
use Rattle.std.proofs.Common.{◌≡◌, ◌≢◌, ℕ, ◌+◌, List, sym, arith, refl}
use Rattle.std.specs.Prelude.{ℤ, pos, ◌+ℤ◌, ◌-ℤ◌}
use Rattle.std.proofs.lemmas.Int.{ints}
use Rattle.std.proofs.lemmas.Bool.{eq-eqb, ne_eqb}
use Rattle.cut_model.specs.Net.{Net}
use Rattle.cut_model.specs.Flow.{out, IsWithinCaps, IsFlow}
use Rattle.dinic_flow.specs.Sending.{only_at, SendsMore}

-- At the router itself there is the amount.
only_at-same : (r amount : ℕ) → only_at r r amount ≡ pos amount
only_at-same r amount = rw (eq-eqb r r refl) refl

-- Elsewhere it is nothing.
only_at-other : (router r amount : ℕ) → router ≢ r → only_at router r amount ≡ pos 0
only_at-other router r amount apart = rw (ne_eqb router r apart) refl

-- What s sends out, with an amount more.
sum-sent : (o n a b : ℤ) (k amount : ℕ) → n ≡ ((o +ℤ a) -ℤ b) → o ≡ pos k → a ≡ pos amount → b ≡ pos 0 →
    n ≡ pos (k + amount)
sum-sent o n a b k amount e is from to = omega (arith, ints, e, is, from, to)

-- What is kept stays kept.
sum-kept : (o n a b : ℤ) → n ≡ ((o +ℤ a) -ℤ b) → o ≡ pos 0 → a ≡ pos 0 → b ≡ pos 0 → n ≡ pos 0
sum-kept o n a b e is from to = omega (arith, ints, e, is, from, to)

-- A flow of k from s to t that sends an amount more from s to t is one of k and the amount.
pub flow-more : (net : Net) (s t : ℕ) (before after : List ℤ) (k amount : ℕ) → IsFlow net s t before k →
    SendsMore net.links before after s t amount → IsWithinCaps net.links after →
    IsFlow net s t after (k + amount)
flow-more net s t before after k amount flow sends within =
    let out_of : ℕ → List ℤ → ℤ = λ r f. out r net.links f in
    record {
      differ_ends = flow.differ_ends;
      within = within;
      kept = λ r small not_s not_t.
          sum-kept (out_of r before) (out_of r after) (only_at s r amount) (only_at t r amount) (sends r)
          (flow.kept r small not_s not_t)
          (only_at-other s r amount (λ e. not_s (sym e))) (only_at-other t r amount (λ e. not_t (sym e)));
      sent =
          sum-sent (out_of s before) (out_of s after) (only_at s s amount) (only_at t s amount) k amount (sends s)
          flow.sent (only_at-same s amount) (only_at-other t s amount (λ e. flow.differ_ends (sym e)));
    }
