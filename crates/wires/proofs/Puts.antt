-- Texts that are put one after another.
use Rattle.std.proofs.Common.{◌≡◌, ℕ, ◌+◌, ◌≤◌, List, [], ◌++◌, length, take, None, Some, Ok, Err}
use Rattle.std.proofs.Common.{Result, IsTrue, refl, sym, ap, ◌∙◌, arith, append_assoc, subst, length-append}
use Rattle.std.proofs.Common.{zero-add}
use Rattle.std.proofs.lemmas.List.{take-append-le, append-nil}
use Rattle.std.proofs.Math.Seq.{take-append-add}
use Rattle.std.specs.declared.option.Option.{Option}
use Rattle.std.specs.Io.KnownBytes.{Appends}
use Rattle.std.specs.Result.{IsErr}
use Rattle.wires.specs.Bytes.{PutAppends}
use Rattle.wires.specs.Causes.{HasCause}
use Rattle.wires.specs.Puts.{Puts}
use Rattle.wires.specs.declared.sinks.Sink.{Ghosts}

-- known bytes that stay grow by nothing
pub Appends-none : (a : Option (List ℕ)) → Appends a a []
Appends-none None = tt
Appends-none (Some u) = sym (append-nil u)

-- known bytes that grow by one list and then by another grow by both
pub Appends-append : (a b c : Option (List ℕ)) (x y : List ℕ) → Appends a b x → Appends b c y → Appends a c (x ++ y)
Appends-append None b c x y p q = tt
Appends-append (Some u) None c x y p q = absurd p
Appends-append (Some u) (Some v) None x y p q = absurd q
Appends-append (Some u) (Some v) (Some w) x y p q = q ∙ ap (λ l. l ++ y) p ∙ append_assoc u x y

-- a whole text, and then what else is put
pub PutAppends-append : {E : Type 0} (a b c : Option (List ℕ)) (r : Result (Unit {0}) E) (x y : List ℕ)
    → Appends a b x → PutAppends b c r y → PutAppends a c r (x ++ y)
PutAppends-append a b c (Ok u) x y p q = Appends-append a b c x y p q
PutAppends-append a b c (Err e) x y p q =
    let within : length x + q.0 ≤ length (x ++ y) = omega (arith, q.1, length-append x y) in (
      length x + q.0,
      within,
      subst (Appends a c) (sym (take-append-add x y q.0)) (Appends-append a b c x (take q.0 y) p q.2),
    )

-- a front of a text is a front of a longer one
pub PutAppends-front : {E : Type 0} (a b : Option (List ℕ)) (e : E) (x y : List ℕ)
    → (n : ℕ) × (n ≤ length x) × Appends a b (take n x) → PutAppends a b (Err e) (x ++ y)
PutAppends-front a b e x y p =
    let within : p.0 ≤ length (x ++ y) = omega (arith, p.1, length-append x y) in
    (p.0, within, subst (Appends a b) (sym (take-append-le p.0 x y p.1)) p.2)

-- where a call succeeded, the next one's fault is the first
pub HasCause-then : {T U E F : Type 0} (before mid now : ℕ) (t : T) (s : Result U F)
    → HasCause {E = E} before mid (Ok t) → HasCause mid now s → HasCause before now s
HasCause-then before mid now t s p q = subst (λ count. HasCause count now s) p.still q

-- the length of two texts and something more
length_on : (x y : List ℕ) (n : ℕ) → length (x ++ y) + n ≡ length x + (length y + n)
length_on x y n = omega (arith, length-append x y)

-- no text at all is put by doing nothing
pub puts_none : {S E : Type 0} (g : Ghosts S) (sink : S) → Puts {E = E} g sink sink (Ok tt) []
puts_none g sink = record {
  bytes = Appends-none (g.written sink);
  cause = record { later = omega arith; still = refl; failed = tt };
  beside = refl;
  sure = λ n h. refl;
  room = λ n h. subst (λ k. IsTrue (g.takes sink k)) (zero-add n) h;
}

-- a text may be written in another way
pub puts_same : {S E : Type 0} {g : Ghosts S} {old new : S} {result : Result (Unit {0}) E} {x y : List ℕ} → x ≡ y
    → Puts g old new result x → Puts g old new result y
puts_same {g = g} {old = old} {new = new} {result = result} is p = subst (λ text. Puts g old new result text) is p

-- a whole text was put, and then another, whose answer stands
pub puts_then : {S D E : Type 0} {g : Ghosts S} {old mid new : S} {u : Unit {0}} {result : Result (Unit {0}) E}
    (x y : List ℕ) → Puts {E = D} g old mid (Ok u) x → Puts g mid new result y → Puts g old new result (x ++ y)
puts_then {g = g} {old = old} {mid = mid} {new = new} {u = u} {result = result} x y p q =
    let longer : (n : ℕ) → IsTrue (g.takes old (length (x ++ y) + n)) → IsTrue (g.takes mid (length y + n)) =
    λ n h. p.room (length y + n) (subst (λ k. IsTrue (g.takes old k)) (length_on x y n) h) in record {
      bytes = PutAppends-append (g.written old) (g.written mid) (g.written new) result x y p.bytes q.bytes;
      cause = HasCause-then (g.write_faults old) (g.write_faults mid) (g.write_faults new) u result p.cause q.cause;
      beside = q.beside ∙ p.beside;
      sure = λ n h. q.sure n (longer n h);
      room = λ n h. q.room n (longer n h);
    }

-- a text failed, and what should have followed it isn't put
pub puts_failed : {S D E : Type 0} {g : Ghosts S} {old new : S} {d : D} (x y : List ℕ) (result : Result (Unit {0}) E)
    → IsErr result → Puts {E = D} g old new (Err d) x → Puts g old new result (x ++ y)
puts_failed x y (Ok u) is p = absurd (cc)
puts_failed {g = g} {old = old} x y (Err e) is p =
    let never : (n : ℕ) → IsTrue (g.takes old (length (x ++ y) + n)) → ⊥ =
    λ n h.
    let ok = p.sure (length y + n) (subst (λ k. IsTrue (g.takes old k)) (length_on x y n) h) in absurd (cc) in record {
      bytes = PutAppends-front _ _ e x y p.bytes;
      cause = record { later = p.cause.later; still = tt; failed = p.cause.failed };
      beside = p.beside;
      sure = λ n h. absurd (never n h);
      room = λ n h. absurd (never n h);
    }
