-- The definitions on small examples, by computing.
use Rattle.std.proofs.Common.{◌≡◌, ℕ, Bool, [], ◌∷◌, Ok, Err, None, Some, true, false, refl, ap, codes, arith}
use Rattle.wires.specs.Bytes.{answers_end, PutAppends}
use Rattle.wires.specs.Causes.{CountsOne}
use Rattle.wires.specs.Doors.{AddsServed, Beginning, EndsDoor, IsOut, begun}
use Rattle.wires.specs.LazyMemory.{LazyState, read_answer, put_answer}
use Rattle.wires.specs.Memory.{Supply, Store, read_count, read_fails, put_writes}
use Rattle.wires.specs.declared.lazy.Got.TheVariants as got
use Rattle.wires.specs.declared.lazy.Taken.TheVariants as taken

-- a read of no byte means the end, unless the buffer was empty
the_end : answers_end {E = Unit {0}} (Ok 0) (codes "..") ≡ true
the_end = refl

no_room : answers_end {E = Unit {0}} (Ok 0) [] ≡ false
no_room = refl

-- a failed put may have written a front of its piece
front_written : PutAppends {E = Unit {0}} (Some (codes "ab")) (Some (codes "abc")) (Err tt) (codes "cd")
front_written = (1, omega arith, refl)

-- a source that gives three bytes a read, and fails at the second
abbrev supply : ℕ → Bool → Supply
supply calls ended = record {
  left = codes "abcde";
  piece = 3;
  failing = 2 ∷ [];
  calls = calls;
  faults = 0;
  ended = ended;
}

first_read : read_count (supply 0 false) 8 ≡ 3
first_read = refl

second_read : read_fails (supply 1 false) ≡ true
second_read = refl

third_read : read_fails (supply 2 false) ≡ false
third_read = refl

at_the_end : read_fails (supply 1 true) ≡ false
at_the_end = refl

-- a sink with room for one byte more writes one
abbrev store : Store
store = record { bytes = codes "ab"; room = 3; failing = []; calls = 1; faults = 0 }

one_fits : put_writes store (codes "cd") ≡ codes "c"
one_fits = refl

-- a count that is 0 before and after has counted nothing
none_counted : CountsOne 0 0 true → ⊥
none_counted counts = omega (arith, counts.failed)

-- a peer of two bytes and room for one, whose second call isn't ready and whose third fails
abbrev peer : ℕ → Bool → LazyState
peer calls ended = record {
  left = codes "ab";
  ended = ended;
  written = [];
  calls = calls;
  counts = record { read_faults = 0; write_faults = 0; reads_not_yet = 0; puts_not_yet = 0 };
  rules = record { piece = 3; room = 1; late = 2 ∷ 3 ∷ []; failing = 3 ∷ [] };
}

first_gives : read_answer (peer 0 false) 8 ≡ got.Bytes 2
first_gives = refl

second_is_late : read_answer (peer 1 false) 8 ≡ got.NotYet
second_is_late = refl

third_fails : put_answer (peer 2 false) 2 ≡ taken.Failed
third_fails = refl

fourth_takes_one : put_answer (peer 3 false) 2 ≡ taken.Bytes 1
fourth_takes_one = refl

end_stays : read_answer (peer 2 true) 8 ≡ got.End
end_stays = refl

-- what a client showed that had failed so often
abbrev beginning : ℕ → Beginning
beginning faults = begun None None faults 0

-- a beginning that isn't told may be any, and one that is told is no other
untold_out : IsOut (Some None) (beginning 0)
untold_out = tt

other_out : IsOut (Some (Some (beginning 0))) (beginning 1) → ⊥
other_out same = omega (arith, ap (λ (b : Beginning). b.read_faults) same)

-- two clients that came back, in order, here told as numbers
came_back : AddsServed {C = ℕ} (Some (Some (beginning 1))) 8 (Some ((beginning 0, 7) ∷ []))
    (Some ((beginning 0, 7) ∷ (beginning 1, 8) ∷ []))
came_back = (beginning 1, refl, refl)

-- a door that hasn't ended doesn't answer that nobody comes
no_end : EndsDoor {C = ℕ} {E = Unit {0}} (Ok None) false false → ⊥
no_end is = absurd (cc)
