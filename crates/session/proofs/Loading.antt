-- What the end of a text leads to, and the texts that a session may hold.
use Rattle.std.proofs.Common.{◌≡◌, ℕ, ◌+◌, ◌≤◌, List, [], ◌∷◌, ◌++◌, Bool, true, false, length, None, Some}
use Rattle.std.proofs.Common.{Result, Ok, Err, refl, sym, ap, ◌∙◌, arith, subst, inl, inr, ◌⊎◌, length-append}
use Rattle.std.proofs.lemmas.List.{append-nil}
use Rattle.std.proofs.lemmas.List.Sums.{fold_push}
use Rattle.std.specs.declared.option.Option.{Option}
use Rattle.network_text.specs.Readings.{Reading, IsWant, Closes, TakesLine}
use Rattle.network_text.specs.Sheets.{SheetView}
use Rattle.network_text.specs.Texts.{Draft, Progress, after_line, at_start, draft_after, draft_verdict, verdict_at}
use Rattle.network_text.specs.Texts.{verdict_of}
use Rattle.network_text.specs.declared.fault.TextFault.{TextFault}
use Rattle.network_text.specs.declared.fault.TextKind.TheVariants.{Memory}
use Rattle.query_lang.specs.Replies.{loaded_text, refused_text}
use Rattle.session.specs.Answers.{IsTextRefusal, LoadStep}
use Rattle.session.specs.Modes.{Gives, Loads, gives, next_text}
use Rattle.session.specs.Points.{IsIdle, Work}
use Rattle.certifier.specs.Blocks.{Carried}
use Rattle.session.specs.Reporting.{IsHeld}
use Rattle.session.specs.Shelved.{IsLook, Shelved}
use Rattle.session.specs.Taking.{HasRead, HasOpen, IsTaken, Owing}
use Rattle.session.specs.declared.desk.Asked.{Asked}
use Rattle.session.specs.declared.intake.Intake.{Intake}
use Rattle.session.specs.declared.intake.Intake.TheVariants.{Between, Text, Lost}
use Rattle.session.proofs.Answering.{look_leads, Gives-one, Gives-still}
use Rattle.text_forms.specs.Items.{Item, Load, items_from}
use Rattle.text_forms.specs.Words.{is_end}
use Rattle.tree_versions.specs.Records.{RecordView}
use Rattle.tree_versions.specs.Shelves.{IsPublishedAt}
use Rattle.tree_versions.specs.declared.shelf.TheConstants.{MOST_RECORDS}

-- where no line is left no record is needed any more
pub whole_held : (records : List RecordView) (work : Work Asked Carried) → work.at.left ≡ 0 → IsHeld records work
whole_held records work none some = absurd (omega (arith, none))

-- a run behind which no line is left is all that is owed
pub run_owing : {alone : Bool} {old new : Shelved} {items : List Item} (work : Work Asked Carried)
    → work.at.left ≡ 0 → Gives alone old items work.run new → Owing alone old new items work
run_owing {alone} {old} {new} {items} work none gives = record {
  grows = gives.leads.grows;
  gives = λ text owed.
      let last : owed.tail ≡ [] = rw none at owed.is in
      let same : text ≡ work.run = owed.joins ∙ ap (λ tail. work.run ++ tail) last ∙ append-nil work.run in
      subst (λ (t : List ℕ). Gives alone old items t new) (sym same) gives;
  held = whole_held new.seen work none;
}

-- where no reply is in work nothing is owed
pub idle_owing : {alone : Bool} {old new : Shelved} {items : List Item} {work : Work Asked Carried} → IsIdle work
    → Gives alone old items [] new → Owing alone old new items work
idle_owing {alone} {old} {new} {items} {work} idle gives =
    run_owing work idle.left (subst (λ (t : List ℕ). Gives alone old items t new) (sym idle.run) gives)

module _ {alone : Bool} {old new : Shelved} (look : IsLook alone old new) {reply : List ℕ} where
  -- the refusal of a faulty text
  pub fault_loads : (fault : TextFault) → IsTextRefusal (length new.seen) fault reply
      → Loads alone old (Err fault) reply new
  fault_loads fault told = record {
    loads = 0;
    counted = omega (arith, look.kept);
    leads = look_leads alone old new look (λ seen next. LoadStep alone new.seen seen (Err fault) reply next 0)
        (λ seen keeps. record { keeps = keeps; told = told; counted = refl });
  }

  -- want of memory may be told of each text
  pub want_loads : (verdict : Result SheetView TextFault) → reply ≡ refused_text (length new.seen) 90 None
      → Loads alone old verdict reply new
  want_loads (Err fault) told = fault_loads fault (inr told)
  want_loads (Ok sheet) told = record {
    loads = 0;
    counted = omega (arith, look.kept);
    leads = look_leads alone old new look (λ seen next. LoadStep alone new.seen seen (Ok sheet) reply next 0)
        (λ seen keeps. inr (inr (record { keeps = keeps; told = told; counted = refl })));
  }

  -- no record can be added to MOST_RECORDS
  pub full_loads : (sheet : SheetView) → length new.seen ≡ MOST_RECORDS → reply ≡ refused_text MOST_RECORDS 20 None
      → Loads alone old (Ok sheet) reply new
  full_loads sheet full told = record {
    loads = 0;
    counted = omega (arith, look.kept);
    leads = look_leads alone old new look (λ seen next. LoadStep alone new.seen seen (Ok sheet) reply next 0)
        (λ seen keeps. inr (inl (record {
          full = full;
          all = full;
          later = keeps.later;
          text = told;
          same = λ only. sym (keeps.same only) ∙ full;
          counted = refl;
        })));
  }

-- A record was published and has this version, and there are no more records than there may be.
pub record Publishes (alone : Bool) (old new : Shelved) (added : RecordView) (version : ℕ) : Type 0 where
  pub stands : IsPublishedAt alone old.seen new.seen added version
  pub counted : new.published ≡ old.published + 1
  pub few : length new.seen ≤ MOST_RECORDS

-- a record was published, and the reply has its version
pub stands_loads : {alone : Bool} {old new : Shelved} {reply : List ℕ} (added : RecordView) (version : ℕ)
    → Publishes alone old new added version → reply ≡ loaded_text version added.sheet.net
    → Loads alone old (Ok added.sheet) reply new
stands_loads {old = old} added version published told = let stands = published.stands in record {
  loads = 1;
  counted = published.counted;
  leads = record {
    grows = stands.grows;
    few = published.few;
    on = λ seen reached. record {
      last = version;
      reached = record { there = omega (arith, stands.last); last = λ only. sym stands.last };
      fact = inl (record {
        later = omega (arith, reached.there, stands.later);
        made = added;
        place = stands.place;
        shows = refl;
        there = omega (arith, stands.last);
        text = told;
        same = λ only. sym stands.last ∙ ap length (stands.next only) ∙ length-append old.seen (added ∷ [])
            ∙ ap (λ (n : ℕ). n + 1) (sym (reached.last only));
        counted = refl;
      });
    };
  };
}

-- a text that was loaded is an item that was answered
pub Loads-gives : {alone : Bool} {old new : Shelved} (text : List (List ℕ)) (whole : Bool) {reply : List ℕ}
    → Loads alone old (verdict_of text whole) reply new → Gives alone old (Load text whole ∷ []) reply new
Loads-gives {alone} {old} {new} text whole {reply} p =
    Gives-one alone old new (Load text whole) reply p.loads p.counted p.leads

-- Want of memory is the verdict.
record Wanted (verdict : Result SheetView TextFault) : Type 0 where
  fault : TextFault
  is : verdict ≡ Err fault
  memory : fault.kind ≡ Memory

-- where memory was wanted for a line, that is the verdict
wanted : (n : ℕ) (ended : Bool) (draft : Result Draft TextFault) → IsWant draft → Wanted (draft_verdict n ended draft)
wanted n ended (Ok draft) want = absurd want
wanted n ended (Err fault) want = record { fault = fault; is = refl; memory = want }

-- a sheet that a reader gives is the verdict
closes_ok : (verdict : Result SheetView TextFault) (sheet : SheetView) → Closes verdict (Ok sheet)
    → verdict ≡ Ok sheet
closes_ok (Err fault) sheet closes = sym closes
closes_ok (Ok other) sheet (inl is) = sym is
closes_ok (Ok other) sheet (inr want) = absurd want

-- a fault that a reader gives is the verdict, or want of memory
closes_err : (verdict : Result SheetView TextFault) (fault : TextFault) → Closes verdict (Err fault)
    → (verdict ≡ Err fault) ⊎ (fault.kind ≡ Memory)
closes_err (Err other) fault closes = inl (sym closes)
closes_err (Ok sheet) fault (inl is) = absurd (cc)
closes_err (Ok sheet) fault (inr want) = inr want

module _ {alone : Bool} {old new : Shelved} {reply : List ℕ} (reader : Reading) (text : List (List ℕ))
    (read : HasRead reader.progress text) where
  -- the sheet of a reader is that of the text
  pub closed_ok : (sheet : SheetView) → Closes (verdict_at reader.ended reader.progress) (Ok sheet)
      → Loads alone old (Ok sheet) reply new → Loads alone old (verdict_of text reader.ended) reply new
  closed_ok sheet closes loads =
      subst (λ (v : Result SheetView TextFault). Loads alone old v reply new) (sym (of read)) loads
    where
      of : HasRead reader.progress text → verdict_of text reader.ended ≡ Ok sheet
      of (inl is) =
          ap (verdict_at reader.ended) (sym is) ∙ closes_ok (verdict_at reader.ended reader.progress) sheet closes
      of (inr want) =
          let w = wanted (reader.progress.lines + 1) reader.ended reader.progress.draft want in
          absurd (let e : Err w.fault ≡ Ok sheet =
          sym w.is ∙ closes_ok (verdict_at reader.ended reader.progress) sheet closes in cc)

  -- the fault of a reader is that of the text, or want of memory
  pub closed_err : IsLook alone old new → (fault : TextFault)
      → Closes (verdict_at reader.ended reader.progress) (Err fault) → IsTextRefusal (length new.seen) fault reply
      → (fault.kind ≡ Memory → reply ≡ refused_text (length new.seen) 90 None)
      → Loads alone old (verdict_of text reader.ended) reply new
  closed_err look fault closes told lost = of read (closes_err (verdict_at reader.ended reader.progress) fault closes)
    where
      by_want : fault.kind ≡ Memory → Loads alone old (verdict_of text reader.ended) reply new
      by_want want = want_loads look (verdict_of text reader.ended) (lost want)

      of : HasRead reader.progress text → (verdict_at reader.ended reader.progress ≡ Err fault) ⊎ (fault.kind ≡ Memory)
          → Loads alone old (verdict_of text reader.ended) reply new
      of (inl is) (inl same) =
          let verdict : verdict_of text reader.ended ≡ Err fault = ap (verdict_at reader.ended) (sym is) ∙ same in
          subst (λ (v : Result SheetView TextFault). Loads alone old v reply new) (sym verdict)
          (fault_loads look fault told)
      of (inl is) (inr want) = by_want want
      of (inr lack) (inr want) = by_want want
      of (inr lack) (inl same) =
          let w = wanted (reader.progress.lines + 1) reader.ended reader.progress.draft lack in
          let e = sym w.is ∙ same in
          let f : w.fault ≡ fault = cc in
          by_want (subst (λ (g : TextFault). g.kind ≡ Memory) f w.memory)

-- A whole text was loaded, and nothing is owed beside the run that tells so.
pub record LoadsText (alone : Bool) (old new : Shelved) (text : List (List ℕ)) (work : Work Asked Carried) : Type 0
  where
    pub none : work.at.left ≡ 0
    pub loads : Loads alone old (verdict_of text true) work.run new

-- a line that ends a text was taken
pub ended_taken : {alone : Bool} {old new : Shelved} (text : List (List ℕ)) (line : List ℕ) {work : Work Asked Carried}
    → is_end line ≡ true → LoadsText alone old new text work → IsTaken alone old new (Some text) Between line work
ended_taken {alone} {old} {new} text line {work} end told = record {
  quiet = λ between passed load. absurd (cc);
  owing = subst (λ (items : List Item). Owing alone old new items work) (sym gives_is)
      (run_owing work told.none (Loads-gives text true told.loads));
  left_open = subst (λ (m : Option (List (List ℕ))). HasOpen Between m) (sym next_is) tt;
}
  where
    gives_is : gives (Some text) line ≡ Load text true ∷ []
    gives_is = rw end refl

    next_is : next_text (Some text) line ≡ None
    next_is = rw end refl

-- a further line of a text was taken
pub more_taken : {alone : Bool} {now : Shelved} (text : List (List ℕ)) (intake : Intake) (line : List ℕ)
    {work : Work Asked Carried} → length now.seen ≤ MOST_RECORDS → IsIdle work → is_end line ≡ false
    → HasOpen intake (Some (text ++ line ∷ [])) → IsTaken alone now now (Some text) intake line work
more_taken {alone} {now} text intake line {work} few idle more left_open = record {
  quiet = λ between passed load. absurd (cc);
  owing = subst (λ (items : List Item). Owing alone now now items work) (sym gives_is)
      (idle_owing idle (Gives-still alone now few));
  left_open = subst (λ (m : Option (List (List ℕ))). HasOpen intake m) (sym next_is) left_open;
}
  where
    gives_is : gives (Some text) line ≡ []
    gives_is = rw more refl

    next_is : next_text (Some text) line ≡ Some (text ++ line ∷ [])
    next_is = rw more refl

-- want of memory stays
want_stays : (n : ℕ) (draft : Result Draft TextFault) (line : List ℕ) → IsWant draft
    → IsWant (draft_after n draft line)
want_stays n (Ok draft) line want = absurd want
want_stays n (Err fault) line want = want

-- a reader that takes a line has read one line more
pub read_more : (old new : Progress) (text : List (List ℕ)) (line : List ℕ) → HasRead old text
    → TakesLine old line new → HasRead new (text ++ line ∷ [])
read_more old new text line read (inr lost) = inr lost.want
read_more old new text line (inl is) (inl step) =
    inl (step ∙ ap (λ (p : Progress). after_line p line) is ∙ sym (fold_push after_line at_start text line))
read_more old new text line (inr want) (inl step) =
    inr (subst (λ (p : Progress). IsWant p.draft) (sym step) (want_stays (old.lines + 1) old.draft line want))

-- where nothing is open the end of the input makes no item whole
pub still_owing : {alone : Bool} {now : Shelved} {work : Work Asked Carried} → length now.seen ≤ MOST_RECORDS
    → IsIdle work → (open_text : Option (List (List ℕ))) → HasOpen Between open_text
    → Owing alone now now (items_from true open_text []) work
still_owing {alone} {now} few idle None h = idle_owing idle (Gives-still alone now few)
still_owing few idle (Some text) h = absurd h

-- a text that the end of the input cuts off was answered
pub cut_owing : {alone : Bool} {old new : Shelved} (text : List (List ℕ)) {work : Work Asked Carried}
    → work.at.left ≡ 0 → Loads alone old (verdict_of text false) work.run new
    → Owing alone old new (items_from true (Some text) []) work
cut_owing text {work} none loads = run_owing work none (Loads-gives text false loads)

-- a text that is read is open
pub text_open : (P : Option (List (List ℕ)) → Type 0) (reader : Reading)
    → ((text : List (List ℕ)) → HasOpen (Text reader) (Some text) → P (Some text))
    → (open_text : Option (List (List ℕ))) → HasOpen (Text reader) open_text → P open_text
text_open P reader on None h = absurd h
text_open P reader on (Some text) h = on text h

-- and so is one that is passed over
pub lost_open : (P : Option (List (List ℕ)) → Type 0) → ((text : List (List ℕ)) → P (Some text))
    → (open_text : Option (List (List ℕ))) → HasOpen Lost open_text → P open_text
lost_open P on None h = absurd h
lost_open P on (Some text) h = on text
