-- A crew with one more worker.
use Rattle.std.proofs.Common.{◌≡◌, ℕ, zero, suc, ◌<◌, List, [], ◌∷◌, ◌++◌, length, slice_index_or}
use Rattle.std.proofs.Common.{All, sym, subst, arith}
use Rattle.std.proofs.lemmas.List.Elements.{All-append}

-- What holds of each member and of one more holds of each member of the longer list.
pub all_more : {X : Type 0} (F : X → Type 0) (xs ys : List X) (x : X) → ys ≡ xs ++ x ∷ [] → All F xs → F x → All F ys
all_more {X} F xs ys x is all here = subst (All F) (sym is) (All-append F xs (x ∷ []) all one)
  where
    one : (k : ℕ) (d : X) → k < length (x ∷ []) → F (slice_index_or (x ∷ []) k d)
    one zero d below = here
    one (suc k) d below = absurd (omega arith)
