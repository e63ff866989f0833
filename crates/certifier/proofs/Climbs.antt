-- Ways up, step by step, and in tables that are alike.
use Rattle.std.proofs.Common.{◌≡◌, ℕ, zero, suc, ◌+◌, ◌-◌, ◌<◌, Bool, ◌||◌, sym, ◌∙◌, ap, arith}
use Rattle.cut_model.specs.Cuts.{RouterSet}
use Rattle.tree_state.specs.Tables.{Table, some_up}
use Rattle.tree_state.proofs.Forest.{some_up-suc, some_up-zero}

-- the rest of a way up is a router and the rest behind it
pub some_up-rest : (P : RouterSet) (up : Table) (n k r : ℕ) → k < n
    → some_up P up (n - k) r ≡ (P r || some_up P up (n - (k + 1)) (up r))
some_up-rest P up n k r low =
    let e : n - k ≡ suc (n - (k + 1)) = omega arith in
    rw e (some_up-suc P up (n - (k + 1)) r)

-- ways up in tables that are alike below n meet the same, where no router of them lies above
pub some_up-alike : (P : RouterSet) (up other : Table) (n : ℕ) → ((r : ℕ) → r < n → up r ≡ other r)
    → ((r : ℕ) → r < n → up r < n) → (k r : ℕ) → r < n → some_up P up k r ≡ some_up P other k r
some_up-alike P up other n same within zero r low = some_up-zero P up r ∙ sym (some_up-zero P other r)
some_up-alike P up other n same within (suc k) r low =
    rw (some_up-suc P up k r, some_up-suc P other k r, ← same r low)
    (ap (λ (b : Bool). P r || b) (some_up-alike P up other n same within k (up r) (within r low)))
