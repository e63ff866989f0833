-- Lines that are put one after another.
use Rattle.std.proofs.Common.{ℕ, ◌+◌, ◌<◌, List, length, map, take, drop, get_or, Result, Ok, Err, sym}
use Rattle.std.specs.List.{concat}
use Rattle.std.specs.Result.{IsErr}
use Rattle.wires.specs.Puts.{Puts}
use Rattle.wires.specs.declared.sinks.Sink.{Ghosts}
use Rattle.wires.proofs.Joins.{concat_more, concat_around}
use Rattle.wires.proofs.Puts.{puts_same, puts_then, puts_failed}

-- The lines so far were put, and then one more.
pub puts_more : {X S D E : Type 0} {g : Ghosts S} {old mid new : S} {u : Unit {0}} {result : Result (Unit {0}) E}
    (line : X → List ℕ) (xs : List X) (i : ℕ) (d : X) → i < length xs
    → Puts {E = D} g old mid (Ok u) (concat (map line (take i xs)))
    → Puts g mid new result (line (get_or xs i d)) → Puts g old new result (concat (map line (take (i + 1) xs)))
puts_more line xs i d within put one = puts_same (sym (concat_more line xs i d within)) (puts_then _ _ put one)

-- The lines so far were put, and the next failed.
pub puts_stopped : {X S D E F : Type 0} {g : Ghosts S} {old mid new : S} {u : Unit {0}} {e : F}
    (line : X → List ℕ) (xs : List X) (i : ℕ) (d : X) → i < length xs
    → Puts {E = D} g old mid (Ok u) (concat (map line (take i xs))) → Puts g mid new (Err e) (line (get_or xs i d))
    → (result : Result (Unit {0}) E) → IsErr result → Puts g old new result (concat (map line xs))
puts_stopped line xs i d within put one result failed =
    let rest = concat (map line (drop (i + 1) xs)) in
    puts_same (sym (concat_around line xs i d within))
    (puts_then _ _ put (puts_failed (line (get_or xs i d)) rest result failed one))
