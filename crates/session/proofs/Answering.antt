-- How replies to stretches of items join, and stay right while the list of records grows.
use Rattle.std.proofs.Common.{◌≡◌, ℕ, zero, suc, ◌+◌, ◌<◌, ◌≤◌, List, [], ◌∷◌, ◌++◌, Bool, length}
use Rattle.std.proofs.Common.{
  Result,
  Ok,
  Err,
  refl,
  sym,
  ap,
  ◌∙◌,
  arith,
  append_assoc,
  subst,
  inl,
  inr,
  length-append,
}
use Rattle.std.proofs.lemmas.List.{append-nil}
use Rattle.std.specs.declared.option.Option.{Option}
use Rattle.std.specs.Prelude.{slice_get}
use Rattle.network_text.specs.Sheets.{SheetView}
use Rattle.network_text.specs.Texts.{verdict_of}
use Rattle.network_text.specs.declared.fault.TextFault.{TextFault}
use Rattle.session.specs.Answers.{Answers, IsReply, IsTold, LoadStep, KeepsVersion, Step}
use Rattle.session.specs.Modes.{Gives, IsReached, IsServed, LeadsOn}
use Rattle.text_forms.specs.Items.{Item, Ask, Load, Bye}
use Rattle.tree_versions.specs.Records.{RecordView, Grows, record_at}
use Rattle.session.specs.Shelved.{IsLook, Shelved}
use Rattle.tree_versions.specs.declared.shelf.TheConstants.{MOST_RECORDS}

-- a number and nothing
zero_plus : (m : ℕ) → m ≡ 0 + m
zero_plus m = omega arith

-- two stretches of items, one after the other
pub Answers-append : (alone : Bool) (records : List RecordView) (xs ys : List Item) (a b c : ℕ)
    (text more : List ℕ) (l m : ℕ)
    → Answers alone records a xs text b l → Answers alone records b ys more c m
    → Answers alone records a (xs ++ ys) (text ++ more) c (l + m)
Answers-append alone records [] ys a b c text more l m p q =
    rw p.0 (rw p.2 (subst (λ (n : ℕ). Answers alone records a ys more c n) (zero_plus m) (rw p.1 at q)))
Answers-append alone records (item ∷ xs) ys a b c text more l m p q = record {
  reply = p.reply;
  rest = p.rest ++ more;
  next = p.next;
  loaded = p.loaded;
  others = p.others + m;
  step = p.step;
  joins = ap (λ t. t ++ more) p.joins ∙ append_assoc p.reply p.rest more;
  sum = omega (arith, p.sum);
  on = Answers-append alone records xs ys p.next b c p.rest more p.others m p.on q;
}

-- records that are added behind change no place before
slice_get-grown : (xs more : List RecordView) (i : ℕ) → i < length xs → slice_get (xs ++ more) i ≡ slice_get xs i
slice_get-grown [] more i low = absurd (omega arith)
slice_get-grown (y ∷ xs) more zero low = refl
slice_get-grown (y ∷ xs) more (suc i) low = slice_get-grown xs more i (omega arith)

-- the record of a version stays where records are added behind
pub record_at-grown : (records more : List RecordView) (version : ℕ) → version ≤ length records
    → record_at (records ++ more) version ≡ record_at records version
record_at-grown records more zero low = refl
record_at-grown records more (suc version) low = slice_get-grown records more version (omega arith)

module _ (alone : Bool) (records more : List RecordView) (few : length (records ++ more) ≤ MOST_RECORDS) where
  -- a reply that publishes nothing stays right where records are added behind
  IsTold-grown : (seen next loads : ℕ) (P Q : Type 0) → IsTold alone records seen next loads P
      → (next ≤ length records → P → Q) → IsTold alone (records ++ more) seen next loads Q
  IsTold-grown seen next loads P Q told on = record {
    keeps = record {
      later = told.keeps.later;
      there = omega (arith, told.keeps.there, length-append records more);
      same = told.keeps.same;
    };
    told = on told.keeps.there told.told;
    counted = told.counted;
  }

  -- so does the reply to a LOAD
  LoadStep-grown : (seen : ℕ) (verdict : Result SheetView TextFault) (reply : List ℕ) (next loads : ℕ)
      → LoadStep alone records seen verdict reply next loads
      → LoadStep alone (records ++ more) seen verdict reply next loads
  LoadStep-grown seen (Err fault) reply next loads step =
      IsTold-grown seen next loads _ _ step (λ there told. told)
  LoadStep-grown seen (Ok sheet) reply next loads (inl step) = inl (record {
    later = step.later;
    made = step.made;
    place = record_at-grown records more next step.there ∙ step.place;
    shows = step.shows;
    there = omega (arith, step.there, length-append records more);
    text = step.text;
    same = step.same;
    counted = step.counted;
  })
  LoadStep-grown seen (Ok sheet) reply next loads (inr (inl step)) = inr (inl (record {
    full = omega (arith, step.full, few, length-append records more);
    all = step.all;
    later = step.later;
    text = step.text;
    same = step.same;
    counted = step.counted;
  }))
  LoadStep-grown seen (Ok sheet) reply next loads (inr (inr step)) =
      inr (inr (IsTold-grown seen next loads _ _ step (λ there told. told)))

  -- and that to each item
  Step-grown : (seen : ℕ) (item : Item) (reply : List ℕ) (next loads : ℕ)
      → Step alone records seen item reply next loads → Step alone (records ++ more) seen item reply next loads
  Step-grown seen (Ask line) reply next loads step =
      IsTold-grown seen next loads _ _ step
      (λ there told. subst (λ (r : Option RecordView). IsReply r next line reply)
      (sym (record_at-grown records more next there)) told)
  Step-grown seen Bye reply next loads step = IsTold-grown seen next loads _ _ step (λ there told. told)
  Step-grown seen (Load text whole) reply next loads step =
      LoadStep-grown seen (verdict_of text whole) reply next loads step

  -- and those to a stretch of items
  Answers-grown : (seen : ℕ) (items : List Item) (text : List ℕ) (last loads : ℕ)
      → Answers alone records seen items text last loads → Answers alone (records ++ more) seen items text last loads
  Answers-grown seen [] text last loads p = p
  Answers-grown seen (item ∷ items) text last loads p = record {
    reply = p.reply;
    rest = p.rest;
    next = p.next;
    loaded = p.loaded;
    others = p.others;
    step = Step-grown seen item p.reply p.next p.loaded p.step;
    joins = p.joins;
    sum = p.sum;
    on = Answers-grown p.next items p.rest last p.others p.on;
  }

-- answers stay right while the list grows, since it never holds more than MOST_RECORDS
pub Answers-grow : (alone : Bool) (records all : List RecordView) (seen : ℕ) (items : List Item) (text : List ℕ)
    (last loads : ℕ) → Grows records all → length all ≤ MOST_RECORDS → Answers alone records seen items text last loads
    → Answers alone all seen items text last loads
Answers-grow alone records all seen items text last loads grows few p =
    let few' : length (records ++ grows.0) ≤ MOST_RECORDS = subst (λ (v : List RecordView). length v ≤ MOST_RECORDS)
    grows.1 few in
    subst (λ (v : List RecordView). Answers alone v seen items text last loads) (sym grows.1)
    (Answers-grown alone records grows.0 few' seen items text last loads p)

-- records are added to records that were added
pub Grows-trans : (a b c : List RecordView) → Grows a b → Grows b c → Grows a c
Grows-trans a b c p q = (p.0 ++ q.0, q.1 ∙ ap (λ (v : List RecordView). v ++ q.0) p.1 ∙ append_assoc a p.0 q.0)

-- records that are added make the list no shorter
pub Grows-length : (a b : List RecordView) → Grows a b → length a ≤ length b
Grows-length a b p = omega (arith, ap length p.1, length-append a p.0)

-- no record is added
pub grows_none : (records : List RecordView) → Grows records records
grows_none records = ([], sym (append-nil records))

-- what is served goes on by what a line gives
pub IsServed-on : (alone : Bool) (start now after : Shelved) (done items : List Item) (text out : List ℕ)
    → IsServed alone start now done text → Gives alone now items out after
    → IsServed alone start after (done ++ items) (text ++ out)
IsServed-on alone start now after done items text out p gives =
    let a = p.answers in
    let b = gives.leads.on a.last a.reached in record {
      loads = p.loads + gives.loads;
      grows = Grows-trans start.seen now.seen after.seen p.grows gives.leads.grows;
      counted = omega (arith, p.counted, gives.counted);
      answers = record {
        last = b.last;
        reached = b.reached;
        fact = Answers-append alone after.seen done items (length start.seen) a.last b.last text out p.loads gives.loads
            (Answers-grow alone now.seen after.seen (length start.seen) done text a.last p.loads gives.leads.grows
            gives.leads.few a.fact) b.fact;
      };
    }

-- two stretches of items that each lead from records to more records
pub Gives-join : (alone : Bool) (old mid new : Shelved) (xs ys : List Item) (out more : List ℕ)
    → Gives alone old xs out mid → Gives alone mid ys more new → Gives alone old (xs ++ ys) (out ++ more) new
Gives-join alone old mid new xs ys out more p q = record {
  loads = p.loads + q.loads;
  counted = omega (arith, p.counted, q.counted);
  leads = record {
    grows = Grows-trans old.seen mid.seen new.seen p.leads.grows q.leads.grows;
    few = q.leads.few;
    on = λ seen reached.
        let a = p.leads.on seen reached in
        let b = q.leads.on a.last a.reached in record {
          last = b.last;
          reached = b.reached;
          fact = Answers-append alone new.seen xs ys seen a.last b.last out more p.loads q.loads
              (Answers-grow alone mid.seen new.seen seen xs out a.last p.loads q.leads.grows q.leads.few a.fact) b.fact;
        };
  };
}

-- nothing was served yet
pub serves_none : (alone : Bool) (start : Shelved) → IsServed alone start start [] []
serves_none alone start = record {
  loads = 0;
  grows = grows_none start.seen;
  counted = omega arith;
  answers = record {
    last = length start.seen;
    reached = record { there = omega arith; last = λ only. refl };
    fact = (refl, refl, refl);
  };
}

-- a version is there that replies may have come to
pub reached_last : (alone : Bool) (records : List RecordView) → IsReached alone records (length records)
reached_last alone records = record { there = omega arith; last = λ only. refl }

module _ (alone : Bool) (old new : Shelved) (look : IsLook alone old new) where
  -- the version of a look isn't older than what was told before
  keeps : (seen : ℕ) → IsReached alone old.seen seen → KeepsVersion alone new.seen seen (length new.seen)
  keeps seen reached = record {
    later = omega (arith, reached.there, Grows-length old.seen new.seen look.looks.grows);
    there = omega arith;
    same = λ only. ap length (look.looks.still only) ∙ sym (reached.last only);
  }

  -- a look gives no item
  pub Gives-none : Gives alone old [] [] new
  Gives-none = record {
    loads = 0;
    counted = omega (arith, look.kept);
    leads = record {
      grows = look.looks.grows;
      few = look.few;
      on = λ seen reached. record {
        last = seen;
        reached = record {
          there = omega (arith, reached.there, Grows-length old.seen new.seen look.looks.grows);
          last = λ only. reached.last only ∙ sym (ap length (look.looks.still only));
        };
        fact = (refl, refl, refl);
      };
    };
  }

  -- a look leads to its version
  pub look_leads : (P : ℕ → ℕ → Type 0)
      → ((seen : ℕ) → KeepsVersion alone new.seen seen (length new.seen) → P seen (length new.seen))
      → LeadsOn alone old.seen new.seen P
  look_leads P holds = record {
    grows = look.looks.grows;
    few = look.few;
    on = λ seen reached. record {
      last = length new.seen;
      reached = reached_last alone new.seen;
      fact = holds seen (keeps seen reached);
    };
  }

-- an item whose steps lead from records to records
pub Gives-one : (alone : Bool) (old new : Shelved) (item : Item) (reply : List ℕ) (loads : ℕ)
    → new.published ≡ old.published + loads
    → LeadsOn alone old.seen new.seen (λ seen next. Step alone new.seen seen item reply next loads)
    → Gives alone old (item ∷ []) reply new
Gives-one alone old new item reply loads counted leads = record {
  loads = loads;
  counted = counted;
  leads = record {
    grows = leads.grows;
    few = leads.few;
    on = λ seen reached. let a = leads.on seen reached in record {
      last = a.last;
      reached = a.reached;
      fact = record {
        reply = reply;
        rest = [];
        next = a.last;
        loaded = loads;
        others = 0;
        step = a.fact;
        joins = sym (append-nil reply);
        sum = omega arith;
        on = (refl, refl, refl);
      };
    };
  };
}

-- a look that sees nothing new
pub still_look : (alone : Bool) (now : Shelved) → length now.seen ≤ MOST_RECORDS → IsLook alone now now
still_look alone now few = record {
  looks = record { grows = grows_none now.seen; still = λ only. refl };
  kept = refl;
  few = few;
}

-- two looks, one after the other
pub IsLook-trans : (alone : Bool) (a b c : Shelved) → IsLook alone a b → IsLook alone b c → IsLook alone a c
IsLook-trans alone a b c p q = record {
  looks = record {
    grows = Grows-trans a.seen b.seen c.seen p.looks.grows q.looks.grows;
    still = λ only. q.looks.still only ∙ p.looks.still only;
  };
  kept = q.kept ∙ p.kept;
  few = q.few;
}

-- records on which nobody looked give no item
pub Gives-still : (alone : Bool) (now : Shelved) → length now.seen ≤ MOST_RECORDS → Gives alone now [] [] now
Gives-still alone now few = Gives-none alone now now (still_look alone now few)
