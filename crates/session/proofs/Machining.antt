-- How a session goes on by the steps of a turn.
use Rattle.std.proofs.Common.{◌≡◌, ℕ, ◌≤◌, ◌<◌, ◌+◌, List, [], ◌∷◌, ◌++◌}
use Rattle.std.proofs.Common.{Bool, true, false, length, refl, sym, ap, ◌∙◌}
use Rattle.std.proofs.Common.{◌⊎◌, inl, inr, subst, arith, None, Some, ◌||◌}
use Rattle.std.specs.Io.KnownBytes.{Consumes}
use Rattle.std.specs.declared.option.Option.{Option}
use Rattle.line_reader.specs.Buffered.{Buffered, Holds}
use Rattle.line_reader.specs.Reading.{Reads}
use Rattle.line_reader.specs.Taking.{TakesLast, TakesLine}
use Rattle.line_reader.specs.declared.reader.TheConstants.{MOST_BYTES}
use Rattle.session.proofs.Concluding.{goes_anew, goes_none, goes_on}
use Rattle.session.proofs.Parting.{bye_last_parts, bye_parts, end_parts, ends-one, gives-one, last_parts, line_parts}
use Rattle.session.proofs.Parting.{open_at, open_items, over_at}
use Rattle.session.proofs.Stretching.{begun, read, waited}
use Rattle.session.specs.Goings.{Going}
use Rattle.session.specs.Modes.{IsByeLine, IsQuiet, gives, next_text}
use Rattle.session.specs.Points.{IsIdle, Parts, Point, Rest, Stretch, Work, items_after}
use Rattle.certifier.specs.Blocks.{Carried}
use Rattle.session.specs.Reporting.{ReportLine}
use Rattle.session.specs.Sessions.{IsOver}
use Rattle.session.specs.Shelved.{Shelved}
use Rattle.session.specs.Steps.{Gone, IsClosed, IsEmpty, IsMet, IsPart, IsUnmet, ReadGoes, here_at, with_work}
use Rattle.session.specs.Taking.{HasOpen, IsByeTaken, IsTaken, LineTaken, Owing}
use Rattle.session.specs.Turns.{Here, Kept, MayBe, StopsBy, TurnGoes, Went, is_owed, point_at}
use Rattle.session.specs.Writing.{PutGoes}
use Rattle.session.specs.declared.desk.Asked.{Asked}
use Rattle.session.specs.declared.intake.Intake.{Intake}
use Rattle.session.specs.declared.intake.Intake.TheVariants.{Between, Text, Lost}
use Rattle.session.specs.declared.session.SessionEnd.TheVariants.{Done, ReadFault, WriteFault, TooLong}
use Rattle.session.specs.declared.session.Turn.{Turn}
use Rattle.session.specs.declared.session.Turn.TheVariants.{Ended, NotYet}
use Rattle.text_forms.specs.Items.{Bye, Item, items_from}
use Rattle.text_forms.specs.Lines.{NoFeed, front_of}
use Rattle.tree_versions.specs.declared.shelf.TheConstants.{MOST_RECORDS}
use Rattle.wires.specs.Lazy.{Wire}
use Rattle.wires.specs.declared.lazy.Got.{Got}
use Rattle.wires.specs.declared.lazy.Got.TheVariants as got

-- what was taken is the same where its parts are
pub same_rest : (a b : Rest) → a.taken ≡ b.taken → a.over ≡ b.over → a.open_text ≡ b.open_text
    → a.bytes ≡ b.bytes → a ≡ b
same_rest a b p q r s =
    ap (λ (n : ℕ). record a { taken = n }) p
    ∙ ap (λ (o : Bool). record a { taken = b.taken; over = o }) q
    ∙ ap (λ (t : Option (List (List ℕ))). record { taken = b.taken; over = b.over; open_text = t; bytes = a.bytes }) r
    ∙ ap (λ (v : List ℕ). record { taken = b.taken; over = b.over; open_text = b.open_text; bytes = v }) s

-- items are parted off alike where what was taken is the same
Parts-same : (a b c d : Rest) (ended : Bool) (items : List Item) → (a ≡ c) × (b ≡ d) → Parts c d ended [] items
    → Parts a b ended [] items
Parts-same a b c d ended items same parts =
    subst (λ (r : Rest). Parts r b ended [] items) (sym same.0)
    (subst (λ (r : Rest). Parts c r ended [] items) (sym same.1) parts)

-- The session was on, is over now or still on, and took no byte in between.
pub record WasOn (old new : Here) (bye : Bool) : Type 0 where
  pub on : old.kept.over ≡ false
  pub over : new.kept.over ≡ bye
  pub count : new.kept.reader.taken ≡ old.kept.reader.taken

-- An answer was begun: items were parted off of what was taken, and are owed their answers.
pub record Began (alone : Bool) (old new : Here) (open_text : Option (List (List ℕ))) (bytes : List ℕ) : Type 0
  where
    pub open_text2 : Option (List (List ℕ))
    pub bytes2 : List ℕ
    pub items : List Item
    pub one : length items ≤ 1
    pub may : MayBe new open_text2 bytes2
    pub wire : new.now.wire ≡ old.now.wire
    pub parts :
        Parts (point_at old open_text bytes).rest (point_at new open_text2 bytes2).rest new.now.wire.ended [] items
    pub owing : Owing alone old.now.shelf new.now.shelf items new.kept.work

-- It was begun for the last line, and no byte is left.
pub record BeganLast (alone : Bool) (old new : Here) (open_text : Option (List (List ℕ))) (bytes : List ℕ) : Type 0
  where
    pub answer : Began alone old new open_text bytes
    pub none : answer.bytes2 ≡ []

-- It was begun at the end of the input: no text is open then.
pub record BeganEnd (alone : Bool) (old new : Here) (open_text : Option (List (List ℕ))) (bytes : List ℕ) : Type 0 where
  pub answer : Began alone old new open_text bytes
  pub none : answer.bytes2 ≡ []
  pub between : answer.open_text2 ≡ None

-- The end was met, and no byte is left.
pub record IsDry (point : Point Asked Carried) : Type 0 where
  pub met : IsOver point.wire.ended point.wire.left
  pub none : point.rest.bytes ≡ []

-- where something is owed, no text is open
pub owed_between : (work : Work Asked Carried) (intake : Intake) → IsIdle work ⊎ HasOpen intake None
    → (IsIdle work → ⊥) → HasOpen intake None
owed_between work intake (inl idle) owed = absurd (owed idle)
owed_between work intake (inr between) owed = between

-- the work up to a point, with what is known of it
pub went_with : (P Q : Point Asked Carried → Type 0) (alone : Bool) (from : Point Asked Carried) (here : Here)
    (w : Went P alone from here) → Q (point_at here w.open_text w.bytes) → Went Q alone from here
went_with P Q alone from here w why = record {
  open_text = w.open_text;
  bytes = w.bytes;
  may = w.may;
  on = w.on;
  why = why;
}

module _ (P : Point Asked Carried → Type 0) (alone : Bool) (from : Point Asked Carried) (old : Here)
    (w : Went P alone from old) where
  -- an answer was begun where nothing was owed
  pub began : (new : Here) → IsIdle old.kept.work → (b : Began alone old new w.open_text w.bytes)
      → (Q : Point Asked Carried → Type 0) → Q (point_at new b.open_text2 b.bytes2) → Went Q alone from new
  began new idle b Q why = record {
    open_text = b.open_text2;
    bytes = b.bytes2;
    may = b.may;
    on = goes_anew ReportLine alone from (point_at old w.open_text w.bytes) (point_at new b.open_text2 b.bytes2) b.items
        w.on idle b.one
        (begun ReportLine alone (point_at old w.open_text w.bytes) (point_at new b.open_text2 b.bytes2) b.items idle
        b.wire b.owing.grows b.parts b.owing.gives);
    why = why;
  }

  -- the reply in work went on
  pub put_on : (new : Here) (Q : Point Asked Carried → Type 0)
      → MayBe new w.open_text w.bytes
      → Stretch ReportLine alone (point_at old w.open_text w.bytes) (point_at new w.open_text w.bytes) []
      → Q (point_at new w.open_text w.bytes) → Went Q alone from new
  put_on new Q may on why = record {
    open_text = w.open_text;
    bytes = w.bytes;
    may = may;
    on = goes_on ReportLine alone from (point_at old w.open_text w.bytes) (point_at new w.open_text w.bytes) w.on on;
    why = why;
  }

module _ (alone : Bool) (old new : Here) (open_text : Option (List (List ℕ))) (bytes front : List ℕ)
    (may : MayBe old open_text bytes) (wire : new.now.wire ≡ old.now.wire) where
  -- a line that is no BYE was taken
  line_taken : WasOn old new false → TakesLine bytes new.kept.reader → front ≡ new.kept.reader.line
      → IsTaken alone old.now.shelf new.now.shelf open_text new.kept.intake front new.kept.work
      → Began alone old new open_text bytes
  line_taken was takes is t = record {
    open_text2 = next_text open_text front;
    bytes2 = takes.behind;
    items = gives open_text front;
    one = gives-one open_text front;
    may = record {
      text = λ e. t.left_open;
      rest = takes.holds;
      unmet = λ e. ap (λ (v : Wire). v.ended) wire ∙ may.unmet (sym was.count ∙ e);
    };
    wire = wire;
    parts = let line = is ∙ takes.front in
        Parts-same _ _ (open_at old.kept.reader.taken open_text (takes.line ++ 10 ∷ takes.behind))
        (open_at old.kept.reader.taken (next_text open_text front) takes.behind) new.now.wire.ended
        (gives open_text front) (same_rest _ _ refl was.on refl takes.is, same_rest _ _ was.count was.over refl refl)
        (subst (λ (f : List ℕ). Parts (open_at old.kept.reader.taken open_text (takes.line ++ 10 ∷ takes.behind))
        (open_at old.kept.reader.taken (next_text open_text f) takes.behind) new.now.wire.ended [] (gives open_text f))
        (sym line)
        (line_parts old.kept.reader.taken open_text new.now.wire.ended takes.line takes.behind takes.clean
        (subst (IsQuiet open_text) line t.quiet)));
    owing = t.owing;
  }

  -- a BYE was taken
  bye_taken : WasOn old new true → TakesLine bytes new.kept.reader → front ≡ new.kept.reader.line
      → IsByeTaken alone old.now.shelf new.now.shelf open_text front new.kept.work
      → Began alone old new open_text bytes
  bye_taken was takes is t = record {
    open_text2 = open_text;
    bytes2 = takes.behind;
    items = Bye ∷ [];
    one = omega arith;
    may = record {
      text = λ e. absurd (let over = was.over in cc);
      rest = takes.holds;
      unmet = λ e. ap (λ (v : Wire). v.ended) wire ∙ may.unmet (sym was.count ∙ e);
    };
    wire = wire;
    parts = Parts-same _ _ (open_at old.kept.reader.taken open_text (takes.line ++ 10 ∷ takes.behind))
        (over_at old.kept.reader.taken open_text takes.behind) new.now.wire.ended (Bye ∷ [])
        (same_rest _ _ refl was.on refl takes.is, same_rest _ _ was.count was.over refl refl)
        (bye_parts old.kept.reader.taken open_text new.now.wire.ended takes.line takes.behind takes.clean t.between
        (subst IsByeLine (is ∙ takes.front) t.bye));
    owing = t.owing;
  }

  -- a whole line was taken
  pub next_taken : (bye : Bool) → WasOn old new bye → TakesLine bytes new.kept.reader → front ≡ new.kept.reader.line
      → LineTaken bye alone old.now.shelf new.now.shelf open_text new.kept.intake front new.kept.work
      → Began alone old new open_text bytes
  next_taken false was takes is t = line_taken was takes is t
  next_taken true was takes is t = bye_taken was takes is t

  -- the last line, behind which the input has ended, was taken, which is no BYE
  last_line_taken : (b : ℕ) (line : List ℕ) → bytes ≡ b ∷ line → WasOn old new false → TakesLast bytes new.kept.reader
      → front ≡ front_of (b ∷ line) → new.now.wire.ended ≡ true
      → IsTaken alone old.now.shelf new.now.shelf open_text new.kept.intake front new.kept.work
      → BeganLast alone old new open_text bytes
  last_line_taken b line some was takes is ended t = record {
    answer = record {
      open_text2 = next_text open_text front;
      bytes2 = [];
      items = gives open_text front;
      one = gives-one open_text front;
      may = record {
        text = λ e. t.left_open;
        rest = takes.holds;
        unmet = λ e. ap (λ (v : Wire). v.ended) wire ∙ may.unmet (sym was.count ∙ e);
      };
      wire = wire;
      parts = Parts-same _ _ (open_at old.kept.reader.taken open_text (b ∷ line))
          (open_at old.kept.reader.taken (next_text open_text front) []) new.now.wire.ended
          (gives open_text front) (same_rest _ _ refl was.on refl some, same_rest _ _ was.count was.over refl refl)
          (subst (λ (e : Bool). Parts (open_at old.kept.reader.taken open_text (b ∷ line))
          (open_at old.kept.reader.taken (next_text open_text front) []) e [] (gives open_text front)) (sym ended)
          (subst (λ (f : List ℕ). Parts (open_at old.kept.reader.taken open_text (b ∷ line))
          (open_at old.kept.reader.taken (next_text open_text f) []) true [] (gives open_text f)) (sym is)
          (last_parts old.kept.reader.taken open_text b line (subst NoFeed some takes.clean)
          (subst (IsQuiet open_text) is t.quiet))));
      owing = t.owing;
    };
    none = refl;
  }

  -- and which is a BYE
  last_bye_taken : (b : ℕ) (line : List ℕ) → bytes ≡ b ∷ line → WasOn old new true → TakesLast bytes new.kept.reader
      → front ≡ front_of (b ∷ line) → new.now.wire.ended ≡ true
      → IsByeTaken alone old.now.shelf new.now.shelf open_text front new.kept.work
      → BeganLast alone old new open_text bytes
  last_bye_taken b line some was takes is ended t = record {
    answer = record {
      open_text2 = open_text;
      bytes2 = [];
      items = Bye ∷ [];
      one = omega arith;
      may = record {
        text = λ e. absurd (let over = was.over in cc);
        rest = takes.holds;
        unmet = λ e. ap (λ (v : Wire). v.ended) wire ∙ may.unmet (sym was.count ∙ e);
      };
      wire = wire;
      parts = Parts-same _ _ (open_at old.kept.reader.taken open_text (b ∷ line))
          (over_at old.kept.reader.taken open_text []) new.now.wire.ended (Bye ∷ [])
          (same_rest _ _ refl was.on refl some, same_rest _ _ was.count was.over refl refl)
          (subst (λ (e : Bool). Parts (open_at old.kept.reader.taken open_text (b ∷ line))
          (over_at old.kept.reader.taken open_text []) e [] (Bye ∷ [])) (sym ended)
          (bye_last_parts old.kept.reader.taken open_text b line (subst NoFeed some takes.clean) t.between
          (subst IsByeLine is t.bye)));
      owing = t.owing;
    };
    none = refl;
  }

  -- the last line was taken
  pub last_taken : (bye : Bool) → WasOn old new bye → new.now.wire.ended ≡ true → TakesLast bytes new.kept.reader
      → front ≡ new.kept.reader.line
      → LineTaken bye alone old.now.shelf new.now.shelf open_text new.kept.intake front new.kept.work
      → BeganLast alone old new open_text bytes
  last_taken bye was ended takes is t = of_bytes bytes refl
    where
      of_bye : (x : Bool) (b : ℕ) (line : List ℕ) → bytes ≡ b ∷ line → WasOn old new x
          → LineTaken x alone old.now.shelf new.now.shelf open_text new.kept.intake front new.kept.work
          → BeganLast alone old new open_text bytes
      of_bye false b line some was t =
          last_line_taken b line some was takes (is ∙ takes.front ∙ ap front_of some) ended t
      of_bye true b line some was t =
          last_bye_taken b line some was takes (is ∙ takes.front ∙ ap front_of some) ended t

      of_bytes : (bs : List ℕ) → bytes ≡ bs → BeganLast alone old new open_text bytes
      of_bytes [] none = absurd (let some = takes.some in omega (arith, some, ap length none))
      of_bytes (b ∷ line) some = of_bye bye b line some was t

  -- the input was closed where no byte is left
  pub end_taken : bytes ≡ [] → WasOn old new false → new.now.wire.ended ≡ true → Holds new.kept.reader []
      → HasOpen new.kept.intake None
      → Owing alone old.now.shelf new.now.shelf (items_from true open_text []) new.kept.work
      → BeganEnd alone old new open_text bytes
  end_taken none was ended holds between owing = record {
    answer = record {
      open_text2 = None;
      bytes2 = [];
      items = items_from true open_text [];
      one = ends-one open_text;
      may = record {
        text = λ e. between;
        rest = holds;
        unmet = λ e. ap (λ (v : Wire). v.ended) wire ∙ may.unmet (sym was.count ∙ e);
      };
      wire = wire;
      parts = Parts-same _ _ (open_at old.kept.reader.taken open_text []) (open_at old.kept.reader.taken None [])
          new.now.wire.ended (items_from true open_text [])
          (same_rest _ _ refl was.on refl none, same_rest _ _ was.count was.over refl refl)
          (subst (λ (e : Bool). Parts (open_at old.kept.reader.taken open_text [])
          (open_at old.kept.reader.taken None []) e [] (items_from true open_text [])) (sym ended)
          (end_parts old.kept.reader.taken open_text));
      owing = owing;
    };
    none = refl;
    between = refl;
  }

-- where no text is open, none is
pub open_once : (intake : Intake) (text : Option (List (List ℕ))) → HasOpen intake None → HasOpen intake text
    → text ≡ None
open_once Between None p q = refl
open_once Between (Some text) p q = absurd q
open_once (Text reader) text p q = absurd p
open_once Lost text p q = absurd p

-- no whole line was held
pub parted : (alone : Bool) (from : Point Asked Carried) (shelf : Shelved) (wire : Wire) (kept : Kept)
    (reader : Buffered) (w : Gone alone from (here_at shelf wire kept)) → reader.taken ≡ kept.reader.taken
    → NoFeed w.bytes × Holds reader w.bytes
    → Went IsPart alone from (here_at shelf wire (record kept { reader = reader }))
parted alone from shelf wire kept reader w count tells = record {
  open_text = w.open_text;
  bytes = w.bytes;
  may = record { text = w.may.text; rest = tells.1; unmet = λ e. w.may.unmet (sym count ∙ e) };
  on = let at = point_at (here_at shelf wire kept) w.open_text w.bytes in
      subst (λ (n : ℕ). Going ReportLine alone from (record at { rest = record at.rest { taken = n } })) (sym count)
      w.on;
  why = record { clean = tells.0 };
}

-- what isn't true is false
not_true : (b : Bool) → (b ≡ true → ⊥) → b ≡ false
not_true false never = refl
not_true true never = absurd (never refl)

-- true with anything
or_true : (b : Bool) → (b || true) ≡ true
or_true false = refl
or_true true = refl

-- false with false
or_false : (b : Bool) → b ≡ false → (b || false) ≡ false
or_false false e = refl
or_false true e = absurd (cc)

module _ (alone : Bool) (from : Point Asked Carried) (shelf : Shelved) (wire wire2 : Wire) (kept : Kept)
    (few : length shelf.seen ≤ MOST_RECORDS) (w : Went IsPart alone from (here_at shelf wire kept)) where
  -- no byte came
  still : (Q : Point Asked Carried → Type 0) → Consumes wire.left wire2.left [] → wire2.written ≡ wire.written
      → (wire.ended ≡ true → wire2.ended ≡ true) → (kept.reader.taken ≡ MOST_BYTES → wire2.ended ≡ false)
      → Q (point_at (here_at shelf wire2 kept) w.open_text w.bytes) → Went Q alone from (here_at shelf wire2 kept)
  still Q gone wrote ended unmet why = record {
    open_text = w.open_text;
    bytes = w.bytes;
    may = record { text = w.may.text; rest = w.may.rest; unmet = unmet };
    on = goes_on ReportLine alone from (point_at (here_at shelf wire kept) w.open_text w.bytes)
        (point_at (here_at shelf wire2 kept) w.open_text w.bytes) w.on
        (waited ReportLine alone (point_at (here_at shelf wire kept) w.open_text w.bytes) few wire2 gone wrote ended);
    why = why;
  }

  -- bytes came
  came : (count : ℕ) (reader : Buffered) → Reads (got.Bytes count) kept.reader reader wire wire2
      → Gone alone from (here_at shelf wire2 (record kept { reader = reader }))
  came count reader reads =
      let unmet : wire.ended ≡ false = not_true wire.ended (λ e. absurd (let n = reads.stays e in cc)) in
      let at = point_at (here_at shelf wire kept) w.open_text w.bytes in
      let sum : kept.reader.taken + length reader.bytes ≡ reader.taken =
      omega (arith, reads.takes.taken, reads.takes.length_is) in record {
        open_text = w.open_text;
        bytes = w.bytes ++ reader.bytes;
        may = record {
          text = w.may.text;
          rest = reads.takes.holds w.bytes w.may.rest;
          unmet = λ e. reads.tells.met ∙ or_false wire.ended unmet;
        };
        on = goes_on ReportLine alone from at
            (point_at (here_at shelf wire2 (record kept { reader = reader })) w.open_text (w.bytes ++ reader.bytes))
            w.on
            (subst (λ (n : ℕ). Stretch ReportLine alone at (record at {
              wire = wire2;
              rest = record at.rest { taken = n; bytes = w.bytes ++ reader.bytes };
            }) []) sum (read ReportLine alone at few wire2 reader.bytes reads.gone reads.tells.written
            (λ e. absurd (let n = reads.stays e in cc))));
        why = tt;
      }

  module _ (reader : Buffered) (more : kept.reader.taken < MOST_BYTES) (empty : kept.reader.bytes ≡ []) where
    -- where a read takes no byte, the reader holds what it held
    kept_still : (gone : Consumes wire.left wire2.left reader.bytes) → reader ≡ kept.reader
        → Consumes wire.left wire2.left []
    kept_still gone same =
        subst (Consumes wire.left wire2.left) (ap (λ (r : Buffered). r.bytes) same ∙ empty) gone

    -- what a read did
    pub read_goes : (answer : Got) → Reads answer kept.reader reader wire wire2
        → ReadGoes answer alone from (here_at shelf wire2 (record kept { reader = reader }))
    read_goes (got.Bytes count) reads = came count reader reads
    read_goes got.End reads =
        let met : wire2.ended ≡ true = reads.tells.met ∙ or_true wire.ended in
        subst (λ (r : Buffered). Went IsMet alone from (here_at shelf wire2 (record kept { reader = r })))
        (sym reads.takes)
        (still IsMet (kept_still reads.gone reads.takes) reads.tells.written (λ e. met) (λ e. absurd (omega (arith, e)))
        (record { met = (met, reads.tells.bytes.0) }))
    read_goes got.NotYet reads =
        let unmet : wire.ended ≡ false = not_true wire.ended (λ e. absurd (let n = reads.stays e in cc)) in
        let unmet2 : wire2.ended ≡ false = reads.tells.met ∙ or_false wire.ended unmet in
        subst (λ (r : Buffered). Went IsUnmet alone from (here_at shelf wire2 (record kept { reader = r })))
        (sym reads.takes)
        (still IsUnmet (kept_still reads.gone reads.takes) reads.tells.written (λ e. absurd (cc)) (λ e. unmet2)
        (record { clean = w.why.clean; unmet = unmet2 }))
    read_goes got.Failed reads =
        let unmet : wire.ended ≡ false = not_true wire.ended (λ e. absurd (let n = reads.stays e in cc)) in
        let unmet2 : wire2.ended ≡ false = reads.tells.met ∙ or_false wire.ended unmet in
        subst (λ (r : Buffered). Went IsUnmet alone from (here_at shelf wire2 (record kept { reader = r })))
        (sym reads.takes)
        (still IsUnmet (kept_still reads.gone reads.takes) reads.tells.written (λ e. absurd (cc)) (λ e. unmet2)
        (record { clean = w.why.clean; unmet = unmet2 }))

-- items that are dropped behind a BYE are none
over_none : (rest : Rest) (met : Bool) → rest.over ≡ true → items_after rest met [] ≡ []
over_none rest met over = rw over refl

-- no item is left where the session goes on
open_none : (rest : Rest) (met : Bool) → rest.over ≡ false → met ≡ false → NoFeed rest.bytes
    → items_after rest met [] ≡ []
open_none rest met on unmet clean = rw (on, unmet) (open_items rest.open_text rest.bytes clean)

-- no item is left where nothing is open
closed_none : (rest : Rest) (met : Bool) → rest.over ≡ false → met ≡ true → IsEmpty rest → items_after rest met [] ≡ []
closed_none rest met on ended empty = rw (on, ended, empty.between, empty.none) refl

-- nor behind the end of the input
met_none : (rest : Rest) (met : Bool) → met ≡ true → (rest.over ≡ true) ⊎ IsEmpty rest → items_after rest met [] ≡ []
met_none rest met ended (inl over) = over_none rest met over
met_none rest met ended (inr empty) = of_over rest.over refl
  where
    of_over : (over : Bool) → rest.over ≡ over → items_after rest met [] ≡ []
    of_over true e = over_none rest met e
    of_over false e = closed_none rest met e ended empty

module _ (alone : Bool) (from : Point Asked Carried) (here : Here) (idle : IsIdle here.kept.work) where
  -- the peer had no byte yet
  pub late_stops : here.kept.over ≡ false → here.kept.reader.taken < MOST_BYTES → Went IsUnmet alone from here
      → Went (StopsBy NotYet) alone from here
  late_stops on more w = went_with IsUnmet (StopsBy NotYet) alone from here w (inr (record {
    through = record {
      idle = idle;
      none = open_none (point_at here w.open_text w.bytes).rest here.now.wire.ended on w.why.unmet w.why.clean;
    };
    on = on;
    unmet = w.why.unmet;
    more = more;
  }))

  -- a read failed
  pub fault_stops : here.kept.over ≡ false → here.kept.reader.taken < MOST_BYTES → Went IsUnmet alone from here
      → Went (StopsBy (Ended ReadFault)) alone from here
  fault_stops on more w = went_with IsUnmet (StopsBy (Ended ReadFault)) alone from here w (record {
    through = record {
      idle = idle;
      none = open_none (point_at here w.open_text w.bytes).rest here.now.wire.ended on w.why.unmet w.why.clean;
    };
    on = on;
    unmet = w.why.unmet;
    more = more;
  })

  -- a BYE was answered
  pub over_stops : (P : Point Asked Carried → Type 0) → here.kept.over ≡ true → Went P alone from here
      → Went (StopsBy (Ended Done)) alone from here
  over_stops P over w = went_with P (StopsBy (Ended Done)) alone from here w (
    record { idle = idle; none = over_none (point_at here w.open_text w.bytes).rest here.now.wire.ended over },
    inl over,
  )

  -- as much was taken as may be
  pub spent_stops : here.kept.over ≡ false → here.kept.reader.taken ≡ MOST_BYTES → Went IsPart alone from here
      → Went (StopsBy (Ended TooLong)) alone from here
  spent_stops on spent w =
      let unmet = w.may.unmet spent in
      went_with IsPart (StopsBy (Ended TooLong)) alone from here w (
        record {
          idle = idle;
          none = open_none (point_at here w.open_text w.bytes).rest here.now.wire.ended on unmet w.why.clean;
        },
        on,
        unmet,
        spent,
      )

  -- the input has ended
  pub closed_stops : Went IsClosed alone from here → Went (StopsBy (Ended Done)) alone from here
  closed_stops w = went_with IsClosed (StopsBy (Ended Done)) alone from here w (
    record {
      idle = idle;
      none = met_none (point_at here w.open_text w.bytes).rest here.now.wire.ended w.why.met.0 w.why.closed;
    },
    inr w.why.met,
  )

module _ (P : Point Asked Carried → Type 0) (alone : Bool) (from : Point Asked Carried) (old new : Here)
    (w : Went P alone from old) (may : MayBe new w.open_text w.bytes) where
  -- the peer takes no more of what is owed, or fails to
  pub put_stops : (turn : Turn) → is_owed new.kept.work ≡ true
      → PutGoes (Some turn) alone (point_at old w.open_text w.bytes) (point_at new w.open_text w.bytes)
      → TurnGoes turn alone from new
  put_stops NotYet owed on = put_on P alone from old w new (StopsBy NotYet) may on (inl owed)
  put_stops (Ended WriteFault) owed on = record {
    open_text = w.open_text;
    bytes = w.bytes;
    may = may;
    on = record {
      front = on.front;
      run = on.run;
      split = on.split;
      on = goes_on ReportLine alone from (point_at old w.open_text w.bytes)
          (record (point_at new w.open_text w.bytes) { work = record new.kept.work { run = on.run } }) w.on on.on;
    };
  }
  put_stops (Ended Done) owed on = absurd on
  put_stops (Ended ReadFault) owed on = absurd on
  put_stops (Ended TooLong) owed on = absurd on

-- nothing was done yet
pub gone_none : (alone : Bool) (here : Here) (open_text : Option (List (List ℕ))) (bytes : List ℕ)
    → length here.now.shelf.seen ≤ MOST_RECORDS → MayBe here open_text bytes
    → Gone alone (point_at here open_text bytes) here
gone_none alone here open_text bytes few may = record {
  open_text = open_text;
  bytes = bytes;
  may = may;
  on = goes_none ReportLine alone (point_at here open_text bytes) few;
  why = tt;
}

-- the end of a reply in work, and of what is kept beside it
pub put_may : (shelf : Shelved) (wire wire2 : Wire) (kept : Kept) (work : Work Asked Carried)
    (open_text : Option (List (List ℕ))) (bytes : List ℕ) → wire2.ended ≡ wire.ended
    → MayBe (here_at shelf wire kept) open_text bytes
    → MayBe (here_at shelf wire2 (with_work kept work)) open_text bytes
put_may shelf wire wire2 kept work open_text bytes same may = record {
  text = may.text;
  rest = may.rest;
  unmet = λ e. same ∙ may.unmet e;
}
