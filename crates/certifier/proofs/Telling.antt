-- How a check ends where something was judged.
use Rattle.std.proofs.Common.{◌≡◌, ℕ, ◌<◌, ◌⊎◌, List, [], ◌∷◌, ◌++◌, length, take, Bool, true, false, Some, None, ◌≤◌}
use Rattle.std.proofs.Common.{refl, sym, ap, ◌∙◌, arith, subst, inl, inr, length-append}
use Rattle.std.proofs.KnownBytes.{Appends-nil}
use Rattle.std.specs.List.{concat}
use Rattle.std.specs.Prelude.{codes, decimal}
use Rattle.std.specs.Io.KnownBytes.{Appends, Consumes}
use Rattle.std.specs.declared.option.Option.{Option}
use Rattle.line_reader.specs.declared.reader.TheConstants.{MOST_BYTES}
use Rattle.wires.specs.Causes.{CountsOne, Rose}
use Rattle.wires.specs.Lazy.{Wire}
use Rattle.certifier.proofs.Deciding.{undecided}
use Rattle.certifier.specs.Certificates as told
use Rattle.certifier.specs.Certificates.{Verdict, verdict_on}
use Rattle.certifier.specs.Checks.{Checks, EndsBy, Tells, is_read_fault, verdict_text}
use Rattle.certifier.specs.Judging.{IsDecided, IsEndFor, IsVerdict, JudgedBy, Judges, TellsEnd, is_failed}
use Rattle.certifier.specs.Judging.{accepted_text, refused_text}
use Rattle.certifier.specs.declared.checking.CheckEnd.{CheckEnd}
use Rattle.certifier.specs.declared.checking.CheckEnd.TheVariants as ends
use Rattle.certifier.specs.declared.fault.Fault.{Fault}
use Rattle.certifier.specs.declared.judged.Judged.{Judged}
use Rattle.certifier.specs.declared.judged.Judged.TheVariants.{Accepted, Refused, ReadFault, TooLong, NoMemory}

-- the line of a verdict that accepts
pub accepted_is : (verdict : Verdict) (routers links : ℕ) → IsVerdict (Accepted routers links) verdict
    → verdict_text verdict ≡ accepted_text routers links
unfolding accepted_text
accepted_is verdict routers links (tree, e, r, l) = rw (e, r, l) refl

-- that line in pieces
pub accepted_pieces : (router_digits link_digits : List ℕ) (routers links : ℕ) → router_digits ≡ decimal routers
    → link_digits ≡ decimal links
    → concat (codes "accepted routers " ∷ router_digits ∷ codes " links " ∷ link_digits ∷ codes "\n" ∷ [])
    ≡ accepted_text routers links
unfolding accepted_text
accepted_pieces router_digits link_digits routers links p q = rw (p, q) refl

-- the line of one that refuses
pub refused_is : (verdict : Verdict) (fault : Fault) → IsVerdict (Refused fault) verdict
    → verdict_text verdict ≡ refused_text fault.number fault.line
unfolding refused_text
refused_is verdict fault e = rw e refl

-- something was decided
decided_is : (judged : Judged) (verdict : Verdict) → IsDecided judged → IsVerdict judged verdict
    → verdict ≡ told.Undecided → ⊥
decided_is judged verdict decided v none = undecided judged decided (subst (IsVerdict judged) none v)

-- the line was put
pub accepted_put : (routers links : ℕ) (before now : Option (List ℕ))
    → Appends before now (accepted_text routers links) → TellsEnd (Accepted routers links) ends.Accepted before now
accepted_put routers links before now wrote = λ verdict taken v.
    (accepted_text routers links, wrote, ((v.0, v.1), sym (accepted_is verdict routers links v)))

-- the line of a fault was put
pub refused_put : (fault : Fault) (before now : Option (List ℕ))
    → Appends before now (refused_text fault.number fault.line)
    → TellsEnd (Refused fault) (ends.Refused fault.number fault.line) before now
refused_put fault before now wrote = λ verdict taken v.
    (refused_text fault.number fault.line, wrote, (v, sym (refused_is verdict fault v)))

-- the put failed
pub accepted_lost : (routers links n : ℕ) (before now : Option (List ℕ))
    → Appends before now (take n (accepted_text routers links))
    → TellsEnd (Accepted routers links) ends.WriteFault before now
accepted_lost routers links n before now wrote = λ verdict taken v. (
  take n (accepted_text routers links),
  wrote,
  (
    decided_is (Accepted routers links) verdict tt v,
    (n, ap (take n) (sym (accepted_is verdict routers links v))),
  ),
)

-- the put of that line failed
pub refused_lost : (fault : Fault) (n : ℕ) (before now : Option (List ℕ))
    → Appends before now (take n (refused_text fault.number fault.line))
    → TellsEnd (Refused fault) ends.WriteFault before now
refused_lost fault n before now wrote = λ verdict taken v. (
  take n (refused_text fault.number fault.line),
  wrote,
  (
    decided_is (Refused fault) verdict tt v,
    (n, ap (take n) (sym (refused_is verdict fault v))),
  ),
)

-- nothing was put
pub none_put : (judged : Judged) (end : CheckEnd) (left : Option (List ℕ))
    → ((verdict : Verdict) (taken : ℕ) → JudgedBy judged verdict taken → EndsBy end verdict taken [])
    → TellsEnd judged end left left
none_put judged end left ended = λ verdict taken v. ([], Appends-nil left, ended verdict taken v)

-- what a check did
pub checks_by : (judged : Judged) (end : CheckEnd) (start mid : Wire) (after : Option (List ℕ))
    → Judges judged start mid → mid.written ≡ start.written → TellsEnd judged end mid.written after
    → Checks end start (record { left = mid.left; ended = mid.ended; written = after })
checks_by judged end start mid after j same tells =
    let t = tells (verdict_on mid.ended j.bytes) (length j.bytes) j.tells in record {
      bytes = j.bytes;
      text = t.0;
      gone = j.gone;
      wrote = subst (λ (w : Option (List ℕ)). Appends w after t.0) same t.1;
      most = j.most;
      ends = t.2;
    }

-- a count rises where it counts
pub rises : (before now : ℕ) (came : Bool) → CountsOne before now came → came ≡ true → Rose before now
rises before now true h e = omega (arith, h.failed)
rises before now false h e = absurd (cc)

-- what is left behind bytes that were taken
left_behind : (left left2 : Option (List ℕ)) (all bytes : List ℕ) → left ≡ Some all → Consumes left left2 bytes
    → (rest : List ℕ) × (all ≡ bytes ++ rest)
left_behind None left2 all bytes is gone = absurd (cc)
left_behind (Some xs) None all bytes is gone = absurd gone
left_behind (Some xs) (Some ys) all bytes is gone = let same : all ≡ xs = cc in (ys, same ∙ gone)

-- A source tells what bytes it has left, nothing failed, and they weren't too many.
pub record IsQuiet (end : CheckEnd) (start : Wire) (all : List ℕ) : Type 0 where
  pub left : start.left ≡ Some all
  pub no_read : end ≡ ends.ReadFault → ⊥
  pub no_write : end ≡ ends.WriteFault → ⊥
  pub not_long : end ≡ ends.TooLong → ⊥

-- no more bytes are taken than are left
pub taken_of : (left left2 : Option (List ℕ)) (all bytes : List ℕ) → left ≡ Some all → Consumes left left2 bytes
    → length bytes ≤ length all
taken_of left left2 all bytes is gone =
    let rest = left_behind left left2 all bytes is gone in
    omega (arith, ap length rest.1, length-append bytes rest.0)

-- where few bytes were taken, a check doesn't end since they are too many
pub few_end : (judged : Judged) (end : CheckEnd) (verdict : Verdict) (taken : ℕ) → JudgedBy judged verdict taken
    → IsEndFor judged end → taken < MOST_BYTES → end ≡ ends.TooLong → ⊥
few_end (Accepted routers links) end verdict taken v (inl e) few long = absurd (cc)
few_end (Accepted routers links) end verdict taken v (inr e) few long = absurd (cc)
few_end (Refused fault) end verdict taken v (inl e) few long = absurd (cc)
few_end (Refused fault) end verdict taken v (inr e) few long = absurd (cc)
few_end ReadFault end verdict taken v e few long = absurd (cc)
few_end TooLong end verdict taken v e few long = omega (arith, v.1, few)
few_end NoMemory end verdict taken v e few long = absurd (cc)

-- a check ends by a failed read where one was judged
pub same_fault : (judged : Judged) (end : CheckEnd) → IsEndFor judged end → is_failed judged ≡ is_read_fault end
same_fault (Accepted routers links) end (inl e) = rw e refl
same_fault (Accepted routers links) end (inr e) = rw e refl
same_fault (Refused fault) end (inl e) = rw e refl
same_fault (Refused fault) end (inr e) = rw e refl
same_fault ReadFault end e = rw e refl
same_fault TooLong end e = rw e refl
same_fault NoMemory end e = rw e refl

-- so the verdict on all of them is told
pub tells_all : (judged : Judged) (end : CheckEnd) (start mid : Wire) (all : List ℕ) → Judges judged start mid
    → IsEndFor judged end → IsQuiet end start all → Tells end (verdict_on true all) ⊎ (end ≡ ends.NoMemory)
tells_all judged end start mid all j e q = of_judged judged j.tells j.whole e
  where
    rest : (rest : List ℕ) × (all ≡ j.bytes ++ rest)
    rest = left_behind start.left mid.left all j.bytes q.left j.gone

    whole_is : (verdict_on true (j.bytes ++ rest.0) ≡ verdict_on mid.ended j.bytes)
        → verdict_on true all ≡ verdict_on mid.ended j.bytes
    whole_is e = ap (verdict_on true) rest.1 ∙ e

    of_judged : (judged : Judged) → JudgedBy judged (verdict_on mid.ended j.bytes) (length j.bytes)
        → (IsDecided judged → (rest : List ℕ) → start.left ≡ Some (j.bytes ++ rest)
        → verdict_on true (j.bytes ++ rest) ≡ verdict_on mid.ended j.bytes)
        → IsEndFor judged end → Tells end (verdict_on true all) ⊎ (end ≡ ends.NoMemory)
    of_judged (Accepted routers links) v whole (inl e) = inl (subst (λ (c : CheckEnd). Tells c (verdict_on true all))
        (sym e) (v.0, whole_is (whole tt rest.0 (q.left ∙ ap Some rest.1)) ∙ v.1))
    of_judged (Accepted routers links) v whole (inr e) = absurd (q.no_write e)
    of_judged (Refused fault) v whole (inl e) = inl (subst (λ (c : CheckEnd). Tells c (verdict_on true all))
        (sym e) (whole_is (whole tt rest.0 (q.left ∙ ap Some rest.1)) ∙ v))
    of_judged (Refused fault) v whole (inr e) = absurd (q.no_write e)
    of_judged ReadFault v whole e = absurd (q.no_read e)
    of_judged TooLong v whole e = absurd (q.not_long e)
    of_judged NoMemory v whole e = inr e
