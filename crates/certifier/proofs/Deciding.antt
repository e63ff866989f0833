-- What bytes decide as they are read, line by line.
use Rattle.std.proofs.Common.{◌≡◌, ℕ, ◌+◌, ◌<◌, ◌≤◌, List, [], ◌∷◌, ◌++◌}
use Rattle.std.proofs.Common.{length, Bool, true, false, Some, None}
use Rattle.std.proofs.Common.{Ok, Err, Result, OnOk, refl, sym, ap, ◌∙◌, arith, subst, append_assoc, length-append}
use Rattle.std.proofs.KnownBytes.{Consumes-nil, Consumes-trans}
use Rattle.std.proofs.lemmas.List.{append-nil, append_cancel_left}
use Rattle.std.specs.Io.KnownBytes.{Consumes, IsAtEnd}
use Rattle.std.specs.Prelude.{◌||◌}
use Rattle.std.specs.declared.option.Option.{Option}
use Rattle.line_reader.specs.Buffered.{Buffered, Holds}
use Rattle.line_reader.specs.Reading.{Reads}
use Rattle.line_reader.specs.Taking.{NextTells, TakesLast, TakesLine}
use Rattle.line_reader.specs.declared.reader.TheConstants.{MOST_BYTES}
use Rattle.text_forms.proofs.LinesOf.{fronts_of-last, fronts_of-line, fronts_of-open}
use Rattle.text_forms.specs.Lines.{NoFeed, front_of, fronts_of}
use Rattle.wires.specs.Lazy.{Wire}
use Rattle.wires.specs.declared.lazy.Got.{Got}
use Rattle.wires.specs.declared.lazy.Got.TheVariants as got
use Rattle.certifier.specs.Certificates as told
use Rattle.certifier.specs.Certificates.{Taken, Verdict, end_fault, take_line, verdict_by, verdict_from, verdict_on}
use Rattle.certifier.specs.Judging.{Goes, Gone, IsDecided, IsVerdict, JudgedBy, Judges, StepGoes, TakesOn}
use Rattle.certifier.specs.Stages.{GoesTo, Shows}
use Rattle.certifier.specs.declared.checker.Checker.{Checker}
use Rattle.certifier.specs.declared.judged.Judged.{Judged}
use Rattle.certifier.specs.declared.judged.Judged.TheVariants.{Accepted, Refused, ReadFault, TooLong, NoMemory}
use Rattle.certifier.specs.declared.stage.Stage.{Stage}

-- what isn't true is false
not_true : (b : Bool) → (b ≡ true → ⊥) → b ≡ false
not_true false never = refl
not_true true never = absurd (never refl)

-- true with anything
or_true : (b : Bool) → (b || true) ≡ true
or_true false = refl
or_true true = refl

-- false with false
or_false : (b : Bool) → b ≡ false → (b || false) ≡ false
or_false false e = refl
or_false true e = absurd (cc)

-- a verdict by the number of lines, the stage behind them and the bytes that follow
abbrev goes_on : Bool → ℕ → told.Stage → List ℕ → Verdict
goes_on ended seen stage bytes = verdict_from ended seen stage (fronts_of ended bytes)

-- a whole line, and what follows it
line_leads : (ended : Bool) (seen : ℕ) (stage : told.Stage) (line behind more : List ℕ) → NoFeed line
    → goes_on ended seen stage ((line ++ 10 ∷ behind) ++ more)
    ≡ verdict_by (take_line (seen + 1) stage (front_of line)) (seen + 1)
    (λ after. goes_on ended (seen + 1) after (behind ++ more))
line_leads ended seen stage line behind more clean =
    ap (goes_on ended seen stage) (append_assoc line (10 ∷ behind) more)
    ∙ ap (verdict_from ended seen stage) (fronts_of-line ended line (behind ++ more) clean)

-- a last line
last_leads : (seen : ℕ) (stage : told.Stage) (line : List ℕ) → 0 < length line → NoFeed line
    → goes_on true seen stage line
    ≡ verdict_by (take_line (seen + 1) stage (front_of line)) (seen + 1) (λ after. goes_on true (seen + 1) after [])
last_leads seen stage [] some clean = absurd (omega (arith, some))
last_leads seen stage (b ∷ line) some clean = ap (verdict_from true seen stage) (fronts_of-last b line clean)

-- what decides nothing is no verdict
pub undecided : (judged : Judged) → IsDecided judged → IsVerdict judged told.Undecided → ⊥
undecided (Accepted routers links) decided (tree, e, r, l) = absurd (cc)
undecided (Refused fault) decided v = absurd (cc)
undecided ReadFault decided v = decided
undecided TooLong decided v = decided
undecided NoMemory decided v = decided

-- where a line decides, what follows it doesn't matter
same_on : (judged : Judged) (taken : Taken) (number : ℕ) (on other : told.Stage → Verdict) → IsDecided judged
    → ((any : told.Stage → Verdict) → IsVerdict judged (verdict_by taken number any))
    → verdict_by taken number on ≡ verdict_by taken number other
same_on judged (told.GoesOn stage) number on other decided v =
    absurd (undecided judged decided (v (λ _. told.Undecided)))
same_on judged (told.Ends tree) number on other decided v = refl
same_on judged (told.Faulty fault) number on other decided v = refl

-- a verdict on bytes of any number
judged_by : (judged : Judged) (verdict : Verdict) (taken : ℕ) → IsVerdict judged verdict
    → JudgedBy judged verdict taken
judged_by (Accepted routers links) verdict taken v = v
judged_by (Refused fault) verdict taken v = v
judged_by ReadFault verdict taken v = absurd v
judged_by TooLong verdict taken v = absurd v
judged_by NoMemory verdict taken v = v

-- the verdict on all bytes that were taken
now_leads : {start now : Wire} {kept : Checker} (ended : Bool) (w : Gone start now kept)
    → verdict_on ended w.bytes ≡ goes_on ended kept.seen w.stage w.held
now_leads {kept = kept} ended w =
    ap (verdict_on ended) (sym (append-nil w.bytes)) ∙ w.leads ended []
    ∙ ap (goes_on ended kept.seen w.stage) (append-nil w.held)

-- A line was taken: what is told of it, and of the reader of the lines.
pub record LineTaken (old new : Checker) (reader : Buffered) (result : Result (Unit {0}) Judged) : Type 0 where
  pub takes : (stage : told.Stage) → Shows stage old.stage
      → TakesOn result (old.seen + 1) (take_line (old.seen + 1) stage reader.line) new.stage
  pub seen : OnOk result (new.seen ≡ old.seen + 1)
  pub same : new.reader ≡ reader
  pub taken : reader.taken ≡ old.reader.taken
  pub most : old.reader.taken ≤ MOST_BYTES

module _ (start now : Wire) where
  -- behind a whole line the check goes on, or the line decides
  pub line_goes : (old new : Checker) (reader : Buffered) (result : Result (Unit {0}) Judged)
      → LineTaken old new reader result → Goes start now old
      → ((bytes : List ℕ) → Holds old.reader bytes → TakesLine bytes reader)
      → StepGoes result start now new
  line_goes old new reader (Ok done) l w parts =
      of_taken (take_line (old.seen + 1) w.on.stage reader.line) refl (l.takes w.on.stage w.on.shows)
    where
      t : TakesLine w.on.held reader
      t = parts w.on.held w.on.holds

      taken_is : new.reader.taken ≡ old.reader.taken
      taken_is = ap (λ (r : Buffered). r.taken) l.same ∙ l.taken

      of_taken : (taken : Taken) → take_line (old.seen + 1) w.on.stage reader.line ≡ taken → GoesTo new.stage taken
          → Goes start now new
      of_taken (told.GoesOn stage) e shows = record {
        on = record {
          bytes = w.on.bytes;
          held = t.behind;
          stage = stage;
          gone = w.on.gone;
          count = w.on.count ∙ sym taken_is;
          holds = subst (λ (r : Buffered). Holds r t.behind) (sym l.same) t.holds;
          shows = shows;
          leads = λ ended more.
              let on : told.Stage → Verdict = λ after. goes_on ended (old.seen + 1) after (t.behind ++ more) in
              w.on.leads ended more ∙ ap (λ h. goes_on ended old.seen w.on.stage (h ++ more)) t.is
              ∙ line_leads ended old.seen w.on.stage t.line t.behind more t.clean
              ∙ ap (λ f. verdict_by (take_line (old.seen + 1) w.on.stage f) (old.seen + 1) on) (sym t.front)
              ∙ ap (λ k. verdict_by k (old.seen + 1) on) e
              ∙ ap (λ n. goes_on ended n stage (t.behind ++ more)) (sym l.seen);
        };
        unmet = λ some. w.unmet (omega (arith, some, taken_is));
      }
      of_taken (told.Ends tree) e shows = absurd shows
      of_taken (told.Faulty fault) e shows = absurd shows
  line_goes old new reader (Err judged) l w parts = record {
    bytes = w.on.bytes;
    gone = w.on.gone;
    most = omega (arith, w.on.count, l.most);
    tells = judged_by judged (verdict_on now.ended w.on.bytes) (length w.on.bytes)
        (subst (IsVerdict judged)
        (sym (ap (verdict_on now.ended) (sym (append-nil w.on.bytes)) ∙ decides now.ended []))
        (l.takes w.on.stage w.on.shows (on now.ended [])));
    whole = λ decided rest left.
        decides true rest ∙ same_on judged taken (old.seen + 1) (on true rest) (on now.ended []) decided
        (l.takes w.on.stage w.on.shows)
        ∙ sym (ap (verdict_on now.ended) (sym (append-nil w.on.bytes)) ∙ decides now.ended []);
  }
    where
      t : TakesLine w.on.held reader
      t = parts w.on.held w.on.holds

      taken : Taken
      taken = take_line (old.seen + 1) w.on.stage reader.line

      on : Bool → List ℕ → told.Stage → Verdict
      on ended more = λ after. goes_on ended (old.seen + 1) after (t.behind ++ more)

      decides : (ended : Bool) (more : List ℕ)
          → verdict_on ended (w.on.bytes ++ more) ≡ verdict_by taken (old.seen + 1) (on ended more)
      decides ended more =
          w.on.leads ended more ∙ ap (λ h. goes_on ended old.seen w.on.stage (h ++ more)) t.is
          ∙ line_leads ended old.seen w.on.stage t.line t.behind more t.clean
          ∙ ap (λ f. verdict_by (take_line (old.seen + 1) w.on.stage f) (old.seen + 1) (on ended more)) (sym t.front)

-- bytes without a line feed decide nothing while the input goes on
open_verdict : {start now : Wire} {kept : Checker} (w : Gone start now kept) → NoFeed w.held
    → verdict_on false w.bytes ≡ told.Undecided
open_verdict {kept = kept} w clean =
    now_leads false w ∙ ap (verdict_from false kept.seen w.stage) (fronts_of-open w.held clean)

-- all bytes that may be taken were taken
pub spent_judges : (start now : Wire) (old : Checker) (reader : Buffered) → Goes start now old
    → ((bytes : List ℕ) → Holds old.reader bytes → NextTells false bytes reader) → old.reader.taken ≡ MOST_BYTES
    → Judges TooLong start now
spent_judges start now old reader w parts all = record {
  bytes = w.on.bytes;
  gone = w.on.gone;
  most = omega (arith, w.on.count, all);
  tells = (
    ap (λ e. verdict_on e w.on.bytes) (w.unmet (omega (arith, all)))
        ∙ open_verdict w.on (parts w.on.held w.on.holds).0,
    w.on.count ∙ all,
  );
  whole = λ decided. absurd decided;
}

-- A read was made where the bytes that are held have no line feed.
pub record ReadMade (answer : Got) (now now2 : Wire) (old : Checker) (reader reader2 : Buffered) : Type 0 where
  pub reads : Reads answer reader reader2 now now2
  pub parts : (bytes : List ℕ) → Holds old.reader bytes → NextTells false bytes reader
  pub empty : reader.bytes ≡ []
  pub taken : reader.taken ≡ old.reader.taken
  pub less : reader.taken < MOST_BYTES

module _ (start now now2 : Wire) where
  -- nothing more was taken where the reader stays as it was
  still_gone : (bytes : List ℕ) (reader reader2 : Buffered)
      → Consumes start.left now.left bytes → Consumes now.left now2.left reader2.bytes × (reader2 ≡ reader)
      → reader.bytes ≡ [] → Consumes start.left now2.left bytes
  still_gone bytes reader reader2 gone (more, same) empty =
      subst (Consumes start.left now2.left) (append-nil bytes)
      (Consumes-trans start.left now.left now2.left bytes [] gone
      (subst (Consumes now.left now2.left) (ap (λ (r : Buffered). r.bytes) same ∙ empty) more))

-- the read failed
pub fault_judges : (start now now2 : Wire) (old : Checker) (reader reader2 : Buffered) → Goes start now old
    → ReadMade got.Failed now now2 old reader reader2 → Judges ReadFault start now2
fault_judges start now now2 old reader reader2 w r =
    let unmet : now.ended ≡ false = not_true now.ended (λ e. absurd (let n = r.reads.stays e in cc)) in
    let unmet2 : now2.ended ≡ false = r.reads.tells.met ∙ or_false now.ended unmet in record {
      bytes = w.on.bytes;
      gone = still_gone start now now2 w.on.bytes reader reader2 w.on.gone (r.reads.gone, r.reads.takes) r.empty;
      most = omega (arith, w.on.count, r.taken, r.less);
      tells = (
        ap (λ e. verdict_on e w.on.bytes) unmet2 ∙ open_verdict w.on (r.parts w.on.held w.on.holds).0,
        omega (arith, w.on.count, r.taken, r.less),
      );
      whole = λ decided. absurd decided;
    }

module _ (start now now2 : Wire) where
  -- bytes came
  pub came_goes : (old : Checker) (reader reader2 : Buffered) (count : ℕ) → Goes start now old
      → ReadMade (got.Bytes count) now now2 old reader reader2
      → Goes start now2 (record { reader = reader2; seen = old.seen; stage = old.stage })
  came_goes old reader reader2 count w r =
      let unmet : now.ended ≡ false = not_true now.ended (λ e. absurd (let n = r.reads.stays e in cc)) in record {
        on = record {
          bytes = w.on.bytes ++ reader2.bytes;
          held = w.on.held ++ reader2.bytes;
          stage = w.on.stage;
          gone = Consumes-trans start.left now.left now2.left w.on.bytes reader2.bytes w.on.gone r.reads.gone;
          count = omega (
            arith,
            length-append w.on.bytes reader2.bytes,
            w.on.count,
            r.taken,
            r.reads.takes.taken,
            r.reads.takes.length_is,
          );
          holds = r.reads.takes.holds w.on.held (r.parts w.on.held w.on.holds).1;
          shows = w.on.shows;
          leads = λ ended more.
              ap (verdict_on ended) (append_assoc w.on.bytes reader2.bytes more)
              ∙ w.on.leads ended (reader2.bytes ++ more)
              ∙ ap (goes_on ended old.seen w.on.stage) (sym (append_assoc w.on.held reader2.bytes more));
        };
        unmet = λ some. r.reads.tells.met ∙ or_false now.ended unmet;
      }

-- The end was met.
pub record IsMet (start now : Wire) (kept : Checker) : Type 0 where
  pub gone : Gone start now kept
  pub ended : now.ended ≡ true
  pub none : IsAtEnd now.left

-- a read that met the end tells that no more comes
pub end_met : (start now now2 : Wire) (old : Checker) (reader reader2 : Buffered) → Goes start now old
    → ReadMade got.End now now2 old reader reader2
    → IsMet start now2 (record { reader = reader2; seen = old.seen; stage = old.stage })
end_met start now now2 old reader reader2 w r = record {
  gone = record {
    bytes = w.on.bytes;
    held = w.on.held;
    stage = w.on.stage;
    gone = still_gone start now now2 w.on.bytes reader reader2 w.on.gone (r.reads.gone, r.reads.takes) r.empty;
    count = w.on.count ∙ sym (ap (λ (b : Buffered). b.taken) r.reads.takes ∙ r.taken);
    holds = subst (λ (b : Buffered). Holds b w.on.held) (sym r.reads.takes) (r.parts w.on.held w.on.holds).1;
    shows = w.on.shows;
    leads = w.on.leads;
  };
  ended = r.reads.tells.met ∙ or_true now.ended;
  none = r.reads.tells.bytes.0;
}

-- nothing is left behind bytes that were taken up to the end
none_left : (left left2 : Option (List ℕ)) (bytes rest : List ℕ) → Consumes left left2 bytes → IsAtEnd left2
    → left ≡ Some (bytes ++ rest) → rest ≡ []
none_left None left2 bytes rest gone end is = absurd (cc)
none_left (Some xs) None bytes rest gone end is = absurd gone
none_left (Some xs) (Some ys) bytes rest gone end is =
    let all : bytes ++ rest ≡ bytes ++ ys = let e : xs ≡ bytes ++ rest = cc in sym e ∙ gone in
    append_cancel_left bytes rest ys all ∙ end

module _ (judged : Judged) where
  -- all bytes were judged
  pub end_judges : (start now : Wire) (kept : Checker) (w : Gone start now kept) → now.ended ≡ true
      → IsAtEnd now.left → kept.reader.taken ≤ MOST_BYTES → IsVerdict judged (verdict_on true w.bytes)
      → Judges judged start now
  end_judges start now kept w ended none most v =
      let on_now : verdict_on now.ended w.bytes ≡ verdict_on true w.bytes = ap (λ e. verdict_on e w.bytes) ended in
      record {
        bytes = w.bytes;
        gone = w.gone;
        most = omega (arith, w.count, most);
        tells = judged_by judged (verdict_on now.ended w.bytes) (length w.bytes)
            (subst (IsVerdict judged) (sym on_now) v);
        whole = λ decided rest left.
            ap (λ r. verdict_on true (w.bytes ++ r)) (none_left start.left now.left w.bytes rest w.gone none left)
            ∙ ap (verdict_on true) (append-nil w.bytes) ∙ sym on_now;
      }

-- no line is left at the end
pub end_verdict : (start now : Wire) (kept : Checker) (w : Gone start now kept) → w.held ≡ []
    → verdict_on true w.bytes ≡ told.Refused record { number = end_fault w.stage; line = kept.seen + 1 }
end_verdict start now kept w none = now_leads true w ∙ ap (goes_on true kept.seen w.stage) none

-- the last line decides, or the input ended too early behind it
pub last_verdict : (start now : Wire) (old : Checker) (reader : Buffered) (w : Gone start now old)
    → TakesLast w.held reader
    → verdict_on true w.bytes ≡ verdict_by (take_line (old.seen + 1) w.stage reader.line) (old.seen + 1)
    (λ after. told.Refused record { number = end_fault after; line = old.seen + 1 + 1 })
last_verdict start now old reader w t =
    now_leads true w ∙ last_leads old.seen w.stage w.held t.some t.clean
    ∙ ap (λ f. verdict_by (take_line (old.seen + 1) w.stage f) (old.seen + 1)
    (λ after. goes_on true (old.seen + 1) after [])) (sym t.front)

-- the certificate goes on behind its last line
pub early_end : (kept : Stage) (taken : Taken) (number : ℕ) (on : told.Stage → Verdict) (judged : Judged)
    → GoesTo kept taken
    → ((stage : told.Stage) → Shows stage kept → IsVerdict judged (on stage))
    → IsVerdict judged (verdict_by taken number on)
early_end kept (told.GoesOn stage) number on judged shows v = v stage shows
early_end kept (told.Ends tree) number on judged shows v = absurd shows
early_end kept (told.Faulty fault) number on judged shows v = absurd shows

-- a check begins
pub begins : (start : Wire) (kept : Checker) → kept.reader.taken ≡ 0 → kept.seen ≡ 0 → Holds kept.reader []
    → Shows told.Title kept.stage → Goes start start kept
begins start kept none first holds shows = record {
  on = record {
    bytes = [];
    held = [];
    stage = told.Title;
    gone = Consumes-nil start.left;
    count = sym none;
    holds = holds;
    shows = shows;
    leads = λ ended more. ap (λ n. goes_on ended n told.Title more) (sym first);
  };
  unmet = λ some. absurd (omega (arith, some, none));
}

-- no byte was taken
pub none_judged : (start : Wire) → Judges NoMemory start start
none_judged start = record {
  bytes = [];
  gone = Consumes-nil start.left;
  most = omega arith;
  tells = tt;
  whole = λ decided. absurd decided;
}
