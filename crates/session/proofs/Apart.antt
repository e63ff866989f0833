-- A session stays right where others use its shelf between its turns.
use Rattle.std.proofs.Common.{◌≡◌, ℕ, ◌+◌, ◌≤◌, List, [], ◌∷◌, Bool, false, length, refl, sym}
use Rattle.std.proofs.Common.{arith, subst, inl, inr, Result, Ok, Err}
use Rattle.std.proofs.KnownBytes.{Appends-nil, Consumes-nil}
use Rattle.std.proofs.lemmas.List.{append-nil}
use Rattle.network_text.specs.Sheets.{SheetView}
use Rattle.network_text.specs.Texts.{verdict_of}
use Rattle.network_text.specs.declared.fault.TextFault.{TextFault}
use Rattle.session.proofs.Answering.{Gives-none, reached_last}
use Rattle.session.proofs.Reporting.{owed_before}
use Rattle.session.proofs.Stretching.{Parts-none}
use Rattle.session.specs.Answers.{Answers, IsTold, LoadStep, Step}
use Rattle.session.specs.Modes.{Gives}
use Rattle.session.specs.Points.{Point, Stretch}
use Rattle.certifier.specs.Blocks.{Carried}
use Rattle.session.specs.Reporting.{IsHeld, ReportLine}
use Rattle.session.specs.Shelved.{IsLook, Shelved}
use Rattle.session.specs.declared.desk.Asked.{Asked}
use Rattle.text_forms.specs.Items.{Item, Ask, Load, Bye}
use Rattle.tree_versions.specs.Records.{RecordView}

module _ (alone : Bool) (records : List RecordView) (low seen : ℕ) (less : low ≤ seen) where
  -- what needs that nobody else publishes may be left out, and an older version may have been seen before
  IsTold-lower : (next loads : ℕ) (P : Type 0) → IsTold alone records seen next loads P
      → IsTold false records low next loads P
  IsTold-lower next loads P told = record {
    keeps = record {
      later = omega (arith, less, told.keeps.later);
      there = told.keeps.there;
      same = λ e. absurd (cc);
    };
    told = told.told;
    counted = told.counted;
  }

  -- so may it for the reply to a LOAD
  LoadStep-lower : (verdict : Result SheetView TextFault) (reply : List ℕ) (next loads : ℕ)
      → LoadStep alone records seen verdict reply next loads → LoadStep false records low verdict reply next loads
  LoadStep-lower (Err fault) reply next loads step = IsTold-lower next loads _ step
  LoadStep-lower (Ok sheet) reply next loads (inl step) = inl (record {
    later = omega (arith, less, step.later);
    made = step.made;
    place = step.place;
    shows = step.shows;
    there = step.there;
    text = step.text;
    same = λ e. absurd (cc);
    counted = step.counted;
  })
  LoadStep-lower (Ok sheet) reply next loads (inr (inl step)) = inr (inl (record {
    full = step.full;
    all = step.all;
    later = omega (arith, less, step.later);
    text = step.text;
    same = λ e. absurd (cc);
    counted = step.counted;
  }))
  LoadStep-lower (Ok sheet) reply next loads (inr (inr step)) = inr (inr (IsTold-lower next loads _ step))

  -- and for that to each item
  Step-lower : (item : Item) (reply : List ℕ) (next loads : ℕ) → Step alone records seen item reply next loads
      → Step false records low item reply next loads
  Step-lower (Ask line) reply next loads step = IsTold-lower next loads _ step
  Step-lower Bye reply next loads step = IsTold-lower next loads _ step
  Step-lower (Load text whole) reply next loads step = LoadStep-lower (verdict_of text whole) reply next loads step

-- The items are answered, from one version on, up to a version of these records.
pub record AnswersApart (records : List RecordView) (low : ℕ) (items : List Item) (text : List ℕ) (loads : ℕ) : Type 0
  where
    pub final : ℕ
    pub there : final ≤ length records
    pub answers : Answers false records low items text final loads

module _ (alone : Bool) (records : List RecordView) where
  -- so may it for items
  Answers-lower : (low seen : ℕ) (items : List Item) (text : List ℕ) (last loads : ℕ) → low ≤ seen
      → last ≤ length records → Answers alone records seen items text last loads
      → AnswersApart records low items text loads
  Answers-lower low seen [] text last loads less there p =
      record { final = low; there = omega (arith, less, there, p.1); answers = (p.0, refl, p.2) }
  Answers-lower low seen (item ∷ items) text last loads less there p =
      let on = Answers-lower p.next p.next items p.rest last p.others (omega arith) there p.on in record {
        final = on.final;
        there = on.there;
        answers = record {
          reply = p.reply;
          rest = p.rest;
          next = p.next;
          loaded = p.loaded;
          others = p.others;
          step = Step-lower alone records low seen less item p.reply p.next p.loaded p.step;
          joins = p.joins;
          sum = p.sum;
          on = on.answers;
        };
      }

-- what was seen, with another count of published records
abbrev pub counted : ℕ → Shelved → Shelved
counted n shelf = record { seen = shelf.seen; published = n }

-- items that were answered for a shelf are answered for one on which others publish, and from any count of records
pub Gives-apart : (alone : Bool) (old new : Shelved) (n : ℕ) (items : List Item) (text : List ℕ)
    (g : Gives alone old items text new) → Gives false (counted n old) items text (counted (n + g.loads) new)
Gives-apart alone old new n items text g = record {
  loads = g.loads;
  counted = refl;
  leads = record {
    grows = g.leads.grows;
    few = g.leads.few;
    on = λ seen reached.
        let a = g.leads.on (length old.seen) (reached_last alone old.seen) in
        let b = Answers-lower alone new.seen seen (length old.seen) items text a.last g.loads reached.there
        a.reached.there a.fact in
        record {
          last = b.final;
          reached = record { there = b.there; last = λ e. absurd (cc) };
          fact = b.answers;
        };
  };
}

-- a point with another count of published records
abbrev pub counted_at : {R C : Type 0} → ℕ → Point R C → Point R C
counted_at n p = record p { shelf = counted n p.shelf }

module _ {R C : Type 0} (Line : List RecordView → R → ℕ → C → List ℕ → C → Type 0) (alone : Bool) where
  -- a stretch over a shelf is one over a shelf on which others publish, and its count grew by as much
  pub Stretch-apart : (a b : Point R C) (items : List Item) (n m : ℕ) → Stretch Line alone a b items
      → b.shelf.published + n ≡ a.shelf.published + m → Stretch Line false (counted_at n a) (counted_at m b) items
  Stretch-apart a b items n m s same = record {
    bytes = s.bytes;
    written = s.written;
    grows = s.grows;
    gone = s.gone;
    wrote = s.wrote;
    ended = s.ended;
    parts = s.parts;
    owes = λ now owed. let o = s.owes now owed in record {
      before = o.before;
      text = o.text;
      owed = o.owed;
      joins = o.joins;
      gives = let g = Gives-apart alone a.shelf b.shelf n items o.text o.gives in
          let sum : n + o.gives.loads ≡ m = omega (arith, o.gives.counted, same) in
          subst (λ (k : ℕ). Gives false (counted n a.shelf) items o.text (counted k b.shelf)) sum g;
    };
  }

-- others published between two turns, and the record of the reply in work stays where it is
pub others_published : (a : Point Asked Carried) (shelf : Shelved) → IsLook false a.shelf shelf
    → IsHeld a.shelf.seen a.work → Stretch ReportLine false a (record a { shelf = shelf }) []
others_published a shelf look held = record {
  bytes = [];
  written = [];
  grows = look.looks.grows;
  gone = Consumes-nil a.wire.left;
  wrote = Appends-nil a.wire.written;
  ended = λ met. (met, refl);
  parts = Parts-none a.rest a.wire.ended;
  owes = λ now is. record {
    before = now;
    text = [];
    owed = owed_before a.shelf.seen shelf.seen a.work now look.looks.grows held is;
    joins = sym (append-nil now);
    gives = Gives-none false a.shelf shelf look;
  };
}
