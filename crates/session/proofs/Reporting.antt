-- The texts that are told by the lines of a reply are that reply, and its record stays where it is.
use Rattle.std.proofs.Common.{◌≡◌, ℕ, zero, suc, List, [], ◌∷◌, ◌++◌, refl, sym, ap, ◌∙◌}
use Rattle.std.proofs.Common.{arith, subst, Some, Ok}
use Rattle.std.specs.Prelude.{slice_get}
use Rattle.std.specs.declared.option.Option.{Option}
use Rattle.certifier.specs.Blocks.{Carried, Layout}
use Rattle.reply_lines.proofs.Known.{Tail-map}
use Rattle.reply_lines.specs.Tails.{Leads, Spot, Tail}
use Rattle.session.proofs.Following.{IsTellable, some_text}
use Rattle.session.proofs.Laying.{lays_answers, lays_once}
use Rattle.session.proofs.LowerEnds.{lays_lower}
use Rattle.session.specs.Answers.{RepliesTo}
use Rattle.session.specs.Points.{Owed, Work}
use Rattle.session.specs.Reporting.{IsHeld, LaysOut, LineIn, ReportLine, size_in}
use Rattle.session.specs.declared.desk.Asked.{Asked}
use Rattle.tree_versions.specs.Records.{RecordView, Grows, record_at}

-- one record stands at a place
pub same_record : (at : Option RecordView) (seen other : RecordView) → at ≡ Some seen → at ≡ Some other → seen ≡ other
same_record at seen other p q = let e : Some seen ≡ Some other = sym p ∙ q in cc

-- The record of what was asked, and what is laid out of it.
pub record IsLaid (records : List RecordView) (asked : Asked) : Type 0 where
  pub seen : RecordView
  pub there : record_at records asked.version ≡ Some seen
  pub layout : Layout
  pub lays : LaysOut seen asked.version asked.request layout

module _ (records : List RecordView) (asked : Asked) (laid : IsLaid records asked) where
  -- a line of the reply is a line of what is laid out for it
  line_in : (place : ℕ) (carry : Carried) (line : List ℕ) (carry2 : Carried)
      → ReportLine records asked place carry line carry2 → LineIn laid.seen laid.layout place carry line carry2
  line_in place carry line carry2 is =
      let same : is.seen ≡ laid.seen =
      same_record (record_at records asked.version) is.seen laid.seen is.there laid.there in
      let lays2 = subst (λ (r : RecordView). LaysOut r asked.version asked.request is.layout) same is.lays in
      let at2 = subst (λ (r : RecordView). LineIn r is.layout place carry line carry2) same is.at in
      subst (λ (l : Layout). LineIn laid.seen l place carry line carry2)
      (lays_once laid.seen asked.version asked.request is.layout laid.layout lays2 laid.lays) at2

  -- and the other way round
  line_told : (place : ℕ) (carry : Carried) (line : List ℕ) (carry2 : Carried)
      → LineIn laid.seen laid.layout place carry line carry2 → ReportLine records asked place carry line carry2
  line_told place carry line carry2 is =
      record { seen = laid.seen; there = laid.there; layout = laid.layout; lays = laid.lays; at = is }

  -- what follows in what is laid out follows in the reply
  pub tail_told : (left place : ℕ) (carry : Carried) (text : List ℕ)
      → Tail Carried (LineIn laid.seen laid.layout) left place carry text
      → Tail Carried (ReportLine records asked) left place carry text
  tail_told left place carry text t =
      Tail-map Carried (LineIn laid.seen laid.layout) (ReportLine records asked) line_told left place carry text t

  -- and the other way round
  tail_in : (left place : ℕ) (carry : Carried) (text : List ℕ)
      → Tail Carried (ReportLine records asked) left place carry text
      → Tail Carried (LineIn laid.seen laid.layout) left place carry text
  tail_in left place carry text t =
      Tail-map Carried (ReportLine records asked) (LineIn laid.seen laid.layout) line_in left place carry text t

  -- a text that leads on in what is laid out leads on in the reply
  pub report_leads : (a b : Spot Carried) (t : List ℕ) → Leads Carried (LineIn laid.seen laid.layout) a t b
      → Leads Carried (ReportLine records asked) a t b
  report_leads a b t leads rest on =
      tail_told a.left a.place a.carry (t ++ rest) (leads rest (tail_in b.left b.place b.carry rest on))

  -- all lines of the reply tell the reply
  pub report_tail : (carry : Carried) (told : List ℕ)
      → Tail Carried (ReportLine records asked) (size_in laid.seen laid.layout) 0 carry told
      → RepliesTo (record_at records asked.version) asked.version (Ok asked.request) told
  report_tail carry told t =
      subst (λ (r : Option RecordView). RepliesTo r asked.version (Ok asked.request) told) (sym laid.there)
      (lays_answers laid.seen asked.version asked.request laid.layout told laid.lays
      (record { carry = carry; is = tail_in (size_in laid.seen laid.layout) 0 carry told t }))

-- a reply in work whose record is held may be written to its end
pub held_owed : (records : List RecordView) (work : Work Asked Carried) → IsHeld records work
    → (text : List ℕ) × Owed ReportLine records work text
held_owed records work held = of_left work.at.left refl
  where
    of_left : (left : ℕ) → work.at.left ≡ left → (text : List ℕ) × Owed ReportLine records work text
    of_left zero e = (work.run ++ [], record { tail = []; is = rw e refl; joins = refl })
    of_left (suc left) e =
        let r = held (omega (arith, e)) in
        let lower = lays_lower r.seen r.sound work.reply.version work.reply.request r.layout r.of r.lays in
        let can : IsTellable r.seen r.layout = record { sound = r.sound; lower = lower } in
        let laid : IsLaid records work.reply =
        record { seen = r.seen; there = r.there; layout = r.layout; lays = r.lays } in
        let on = some_text r.seen r.layout can work.at.left work.at.place work.at.carry r.places r.fits in (
          work.run ++ on.0,
          record {
            tail = on.0;
            is = tail_told records work.reply laid work.at.left work.at.place work.at.carry on.0 on.1;
            joins = refl;
          },
        )

-- a record that is there stays there where records are added behind
slice_get-there : (xs more : List RecordView) (i : ℕ) (r : RecordView) → slice_get xs i ≡ Some r
    → slice_get (xs ++ more) i ≡ Some r
slice_get-there [] more i r is = absurd (cc)
slice_get-there (y ∷ xs) more zero r is = is
slice_get-there (y ∷ xs) more (suc i) r is = slice_get-there xs more i r is

-- so does that of a version
record_at-there : (records all : List RecordView) (version : ℕ) (r : RecordView) → Grows records all
    → record_at records version ≡ Some r → record_at all version ≡ Some r
record_at-there records all zero r grows is = absurd (cc)
record_at-there records all (suc version) r grows is =
    ap (λ (v : List RecordView). slice_get v version) grows.1 ∙ slice_get-there records grows.0 version r is

-- the record of a reply in work is held where records are added behind
pub IsHeld-grow : (records all : List RecordView) (work : Work Asked Carried) → Grows records all
    → IsHeld records work → IsHeld all work
IsHeld-grow records all work grows held some = let r = held some in record {
  seen = r.seen;
  there = record_at-there records all work.reply.version r.seen grows r.there;
  sound = r.sound;
  of = r.of;
  layout = r.layout;
  lays = r.lays;
  places = r.places;
  fits = r.fits;
}

-- so it is where bytes of the run were taken
pub held_run : (records : List RecordView) (work : Work Asked Carried) (run : List ℕ) → IsHeld records work
    → IsHeld records (record work { run = run })
held_run records work run held some = let r = held some in record {
  seen = r.seen;
  there = r.there;
  sound = r.sound;
  of = r.of;
  layout = r.layout;
  lays = r.lays;
  places = r.places;
  fits = r.fits;
}

-- and where its run alone changed
pub held_same : (records : List RecordView) (old new : Work Asked Carried) → new.reply ≡ old.reply → new.at ≡ old.at
    → IsHeld records old → IsHeld records new
held_same records old new reply at held =
    let same : new ≡ record old { run = new.run } =
    ap (λ (r : Asked). record new { reply = r }) reply
    ∙ ap (λ (s : Spot Carried). record { run = new.run; reply = old.reply; at = s }) at in
    subst (λ (w : Work Asked Carried). IsHeld records w) (sym same) (held_run records old new.run held)

-- what is owed over more records was owed before
pub owed_before : (records all : List RecordView) (work : Work Asked Carried) (text : List ℕ) → Grows records all
    → IsHeld records work → Owed ReportLine all work text → Owed ReportLine records work text
owed_before records all work text grows held owed = record {
  tail = owed.tail;
  is = of_left work.at.left refl owed.is;
  joins = owed.joins;
}
  where
    of_left : (left : ℕ) → work.at.left ≡ left
        → Tail Carried (ReportLine all work.reply) left work.at.place work.at.carry owed.tail
        → Tail Carried (ReportLine records work.reply) left work.at.place work.at.carry owed.tail
    of_left zero e t = t
    of_left (suc left) e t =
        let r = held (omega (arith, e)) in
        let later = record_at-there records all work.reply.version r.seen grows r.there in
        Tail-map Carried (ReportLine all work.reply) (ReportLine records work.reply)
        (λ place carry line carry2 is. record {
          seen = is.seen;
          there = r.there ∙ ap (λ (s : RecordView). Some s)
              (same_record (record_at all work.reply.version) r.seen is.seen later is.there);
          layout = is.layout;
          lays = is.lays;
          at = is.at;
        }) (suc left) work.at.place work.at.carry owed.tail t
