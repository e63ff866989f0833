-- What a read and a put do to bytes.
use Rattle.std.specs.Prelude.{ℕ, ◌≤◌, List, length, take, Bool, false, nat_eq, nat_lt, ◌&&◌, Result, Ok, Err}
use Rattle.std.specs.Prelude.{MatchResult}
use Rattle.std.specs.Io.KnownBytes.{Appends}
use Rattle.std.specs.declared.option.Option.{Option}

-- a read met the end: it gave no byte for a buffer that isn't empty
abbrev pub answers_end : {E : Type 0} → Result ℕ E → List ℕ → Bool
answers_end (Ok n) buffer = nat_eq n 0 && nat_lt 0 (length buffer)
answers_end (Err e) buffer = false

-- the whole piece was written, and at a failure a front of it
abbrev pub PutAppends : {E : Type 0} → Option (List ℕ) → Option (List ℕ) → Result (Unit {0}) E → List ℕ → Type 0
PutAppends before now result piece =
    MatchResult result
    (λ _. Appends before now piece)
    (λ _. (n : ℕ) × (n ≤ length piece) × Appends before now (take n piece))
