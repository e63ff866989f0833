-- How visits go on from one another, and stay answered while the list of records grows.
use Rattle.std.proofs.Common.{◌≡◌, ℕ, ◌+◌, ◌≤◌, List, [], ◌∷◌, ◌++◌, Bool, false, length}
use Rattle.std.proofs.Common.{Result, Ok, Err, refl, arith, subst, inl, inr}
use Rattle.std.proofs.lemmas.Bool.{false≢true}
use Rattle.desks.specs.Visits.{AnswersAll, AnswersFront, AreAnswered, IsAnswered, Leg, Visit, VisitEnds}
use Rattle.network_text.specs.Sheets.{SheetView}
use Rattle.network_text.specs.Texts.{verdict_of}
use Rattle.network_text.specs.declared.fault.TextFault.{TextFault}
use Rattle.session.specs.Answers.{Answers, IsTold, LoadStep, Step}
use Rattle.session.specs.Sessions.{Breaks, EndsAs, EndsServed, Moment}
use Rattle.session.specs.declared.session.SessionEnd.{SessionEnd}
use Rattle.session.specs.declared.session.SessionEnd.TheVariants.{Done, ReadFault, WriteFault, TooLong}
use Rattle.session.proofs.Answering.{Answers-grow}
use Rattle.text_forms.specs.Items.{Item, Ask, Load, Bye}
use Rattle.tree_versions.specs.Records.{RecordView, Grows}
use Rattle.tree_versions.specs.declared.shelf.TheConstants.{MOST_RECORDS}
use Rattle.wires.specs.Doors.{Beginning}

-- ---- from an earlier version

-- a reply that publishes nothing is one from an earlier version too, on a list that others publish on
told-earlier : (alone : Bool) (records : List RecordView) (early seen next loads : ℕ) (P : Type 0) → early ≤ seen
    → IsTold alone records seen next loads P → IsTold false records early next loads P
told-earlier alone records early seen next loads P low told = record {
  keeps = record {
    later = omega (arith, low, told.keeps.later);
    there = told.keeps.there;
    same = λ other. absurd (false≢true other);
  };
  told = told.told;
  counted = told.counted;
}

-- so is the reply to a LOAD
load-earlier : (alone : Bool) (records : List RecordView) (early seen : ℕ) (verdict : Result SheetView TextFault)
    (reply : List ℕ) (next loads : ℕ) → early ≤ seen → LoadStep alone records seen verdict reply next loads
    → LoadStep false records early verdict reply next loads
load-earlier alone records early seen (Err fault) reply next loads low step =
    told-earlier alone records early seen next loads _ low step
load-earlier alone records early seen (Ok sheet) reply next loads low (inl step) = inl (record {
  later = omega (arith, low, step.later);
  made = step.made;
  place = step.place;
  shows = step.shows;
  there = step.there;
  text = step.text;
  same = λ other. absurd (false≢true other);
  counted = step.counted;
})
load-earlier alone records early seen (Ok sheet) reply next loads low (inr (inl step)) = inr (inl (record {
  full = step.full;
  all = step.all;
  later = omega (arith, low, step.later);
  text = step.text;
  same = λ other. absurd (false≢true other);
  counted = step.counted;
}))
load-earlier alone records early seen (Ok sheet) reply next loads low (inr (inr step)) =
    inr (inr (told-earlier alone records early seen next loads _ low step))

-- and that to each item
step-earlier : (alone : Bool) (records : List RecordView) (early seen : ℕ) (item : Item) (reply : List ℕ)
    (next loads : ℕ) → early ≤ seen → Step alone records seen item reply next loads
    → Step false records early item reply next loads
step-earlier alone records early seen (Ask line) reply next loads low step =
    told-earlier alone records early seen next loads _ low step
step-earlier alone records early seen Bye reply next loads low step =
    told-earlier alone records early seen next loads _ low step
step-earlier alone records early seen (Load text whole) reply next loads low step =
    load-earlier alone records early seen (verdict_of text whole) reply next loads low step

-- Replies from a version lead to one that isn't behind another one.
pub record LeadsTo (records : List RecordView) (seen : ℕ) (items : List Item) (text : List ℕ) (most loads : ℕ) : Type 0
  where
    pub last : ℕ
    pub reached : last ≤ most
    pub answers : Answers false records seen items text last loads

-- replies from a version are replies from an earlier one
pub answers-earlier : (alone : Bool) (records : List RecordView) (early seen : ℕ) (items : List Item)
    (text : List ℕ) (last loads : ℕ) → early ≤ seen → Answers alone records seen items text last loads
    → LeadsTo records early items text last loads
answers-earlier alone records early seen [] text last loads low p = record {
  last = early;
  reached = omega (arith, low, p.1);
  answers = (p.0, refl, p.2);
}
answers-earlier alone records early seen (item ∷ items) text last loads low p =
    let rest = answers-earlier alone records p.next p.next items p.rest last p.others (omega arith) p.on in
    record {
      last = rest.last;
      reached = rest.reached;
      answers = record {
        reply = p.reply;
        rest = p.rest;
        next = p.next;
        loaded = p.loaded;
        others = p.others;
        step = step-earlier alone records early seen item p.reply p.next p.loaded low p.step;
        joins = p.joins;
        sum = p.sum;
        on = rest.answers;
      };
    }

-- ---- a session is a visit

-- A client came so, and its session showed just that at its start.
pub record CameAs (start : Moment) (begin : Beginning) : Type 0 where
  pub left : start.wire.left ≡ begin.left
  pub written : start.wire.written ≡ begin.written

-- the visit that a session left
abbrev pub visit_at : Beginning → Moment → ℕ → ℕ → Visit
visit_at begin now reads writes = record {
  begin = begin;
  back = record { wire = now.wire; read_faults = reads; write_faults = writes };
}

-- A session published, and what it wrote is what P says of the replies from a version on.
pub record IsVisit (start now : Moment) (seen : ℕ) (P : Leg → Type 0) : Type 0 where
  pub last : ℕ
  pub loads : ℕ
  pub reached : last ≤ length now.shelf.seen
  pub grows : Grows start.shelf.seen now.shelf.seen
  pub counted : now.shelf.published ≡ start.shelf.published + loads
  pub is : P (record { seen = seen; last = last; loads = loads })

-- a session that answered all items, from an earlier version than it had seen
all-visit : (P : List ℕ → List Item → Type 0) (alone : Bool) (start now : Moment) (seen : ℕ) (begin : Beginning)
    (reads writes : ℕ) → seen ≤ length start.shelf.seen → CameAs start begin → EndsServed P alone start now
    → IsVisit start now seen (λ leg. AnswersAll P now.shelf.seen leg (visit_at begin now reads writes))
all-visit P alone start now seen begin reads writes low came ends =
    let served = ends.served.answers in
    let on = answers-earlier alone now.shelf.seen seen (length start.shelf.seen) _ ends.text served.last
    ends.served.loads low served.fact in
    record {
      last = on.last;
      loads = ends.served.loads;
      reached = omega (arith, on.reached, served.reached.there);
      grows = ends.served.grows;
      counted = ends.served.counted;
      is = record {
        bytes = ends.bytes;
        text = ends.text;
        served = on.answers;
        gone = rw came.left at ends.gone;
        wrote = rw came.written at ends.wrote;
        why = ends.why;
        most = ends.most;
      };
    }

-- and one that a put broke
front-visit : (alone : Bool) (start now : Moment) (seen : ℕ) (begin : Beginning) (reads writes : ℕ)
    → seen ≤ length start.shelf.seen → CameAs start begin → Breaks alone start now
    → IsVisit start now seen (λ leg. AnswersFront now.shelf.seen leg (visit_at begin now reads writes))
front-visit alone start now seen begin reads writes low came ends =
    let first = answers-earlier alone now.shelf.seen seen (length start.shelf.seen) ends.earlier ends.text ends.seen
    ends.loads low ends.before in
    let second = answers-earlier alone now.shelf.seen first.last ends.seen ends.last ends.reply ends.final ends.loaded
    first.reached ends.answers in
    record {
      last = second.last;
      loads = ends.loads + ends.loaded;
      reached = omega (arith, second.reached, ends.reached.there);
      grows = ends.grows;
      counted = ends.counted;
      is = record {
        bytes = ends.bytes;
        earlier = ends.earlier;
        last = ends.last;
        behind = ends.behind;
        text = ends.text;
        reply = ends.reply;
        mid = first.last;
        loads = ends.loads;
        loaded = ends.loaded;
        count = ends.count;
        whole = ends.whole;
        one = ends.one;
        before = first.answers;
        answers = second.answers;
        counted = refl;
        gone = rw came.left at ends.gone;
        wrote = rw came.written at ends.wrote;
        most = ends.most;
      };
    }

-- each session is a visit
pub session-visit : (end : SessionEnd) (alone : Bool) (start now : Moment) (seen : ℕ) (begin : Beginning)
    (reads writes : ℕ) → seen ≤ length start.shelf.seen → CameAs start begin → EndsAs end alone start now
    → IsVisit start now seen (λ leg. VisitEnds end now.shelf.seen leg (visit_at begin now reads writes))
session-visit Done alone start now seen begin reads writes low came ends =
    all-visit _ alone start now seen begin reads writes low came ends
session-visit ReadFault alone start now seen begin reads writes low came ends =
    all-visit _ alone start now seen begin reads writes low came ends
session-visit TooLong alone start now seen begin reads writes low came ends =
    all-visit _ alone start now seen begin reads writes low came ends
session-visit WriteFault alone start now seen begin reads writes low came ends =
    front-visit alone start now seen begin reads writes low came ends

-- ---- while the list grows

module _ (records all : List RecordView) (grows : Grows records all) (few : length all ≤ MOST_RECORDS) where
  -- what answers all items stays right
  all-grow : (P : List ℕ → List Item → Type 0) (leg : Leg) (visit : Visit) → AnswersAll P records leg visit
      → AnswersAll P all leg visit
  all-grow P leg visit ends = record {
    bytes = ends.bytes;
    text = ends.text;
    served = Answers-grow false records all leg.seen _ ends.text leg.last leg.loads grows few ends.served;
    gone = ends.gone;
    wrote = ends.wrote;
    why = ends.why;
    most = ends.most;
  }

  -- so does what answers a front of them
  front-grow : (leg : Leg) (visit : Visit) → AnswersFront records leg visit → AnswersFront all leg visit
  front-grow leg visit ends = record {
    bytes = ends.bytes;
    earlier = ends.earlier;
    last = ends.last;
    behind = ends.behind;
    text = ends.text;
    reply = ends.reply;
    mid = ends.mid;
    loads = ends.loads;
    loaded = ends.loaded;
    count = ends.count;
    whole = ends.whole;
    one = ends.one;
    before =
        Answers-grow false records all leg.seen ends.earlier ends.text ends.mid ends.loads grows few ends.before;
    answers =
        Answers-grow false records all ends.mid ends.last ends.reply leg.last ends.loaded grows few ends.answers;
    counted = ends.counted;
    gone = ends.gone;
    wrote = ends.wrote;
    most = ends.most;
  }

  -- and what a visit's session wrote
  ends-grow : (end : SessionEnd) (leg : Leg) (visit : Visit) → VisitEnds end records leg visit
      → VisitEnds end all leg visit
  ends-grow Done leg visit ends = all-grow _ leg visit ends
  ends-grow ReadFault leg visit ends = all-grow _ leg visit ends
  ends-grow TooLong leg visit ends = all-grow _ leg visit ends
  ends-grow WriteFault leg visit ends = front-grow leg visit ends

  -- so each visit stays answered
  pub answered-grow : (leg : Leg) (visit : Visit) → IsAnswered records leg visit → IsAnswered all leg visit
  answered-grow leg visit is = record {
    end = is.end;
    ends = ends-grow is.end leg visit is.ends;
    reads = is.reads;
    writes = is.writes;
    completes = is.completes;
    always_too_long = is.always_too_long;
  }

  -- and so do visits one after another
  pub visits-grow : (seen : ℕ) (visits : List Visit) (last loads : ℕ) → AreAnswered records seen visits last loads
      → AreAnswered all seen visits last loads
  visits-grow seen [] last loads are = are
  visits-grow seen (visit ∷ visits) last loads are = record {
    next = are.next;
    loaded = are.loaded;
    others = are.others;
    answered = answered-grow _ visit are.answered;
    sum = are.sum;
    on = visits-grow are.next visits last are.others are.on;
  }

-- ---- one visit more

-- a visit behind others, from the version that they came to
pub visits-more : (records : List RecordView) (seen : ℕ) (visits : List Visit) (mid last loads loaded : ℕ)
    (visit : Visit) → AreAnswered records seen visits mid loads
    → IsAnswered records (record { seen = mid; last = last; loads = loaded }) visit
    → AreAnswered records seen (visits ++ visit ∷ []) last (loads + loaded)
visits-more records seen [] mid last loads loaded visit are is = record {
  next = last;
  loaded = loaded;
  others = 0;
  answered = subst (λ (v : ℕ). IsAnswered records (record { seen = v; last = last; loads = loaded }) visit) are.0 is;
  sum = omega (arith, are.1);
  on = (refl, refl);
}
visits-more records seen (first ∷ visits) mid last loads loaded visit are is = record {
  next = are.next;
  loaded = are.loaded;
  others = are.others + loaded;
  answered = are.answered;
  sum = omega (arith, are.sum);
  on = visits-more records are.next visits mid last are.others loaded visit are.on is;
}
