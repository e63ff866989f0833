-- Turns join, and are a session from a fresh start to an end.
use Rattle.std.proofs.Common.{◌≡◌, Bool, false, inl, inr, refl}
use Rattle.session.proofs.Apart.{others_published}
use Rattle.session.proofs.Concluding.{Going-join, goes_on}
use Rattle.session.proofs.Ending.{turn_ends}
use Rattle.session.specs.Laws.{OthersMayPublish, TurnsAreASession, TurnsJoin}
use Rattle.session.specs.Points.{Point}
use Rattle.certifier.specs.Blocks.{Carried}
use Rattle.session.specs.Reporting.{ReportLine}
use Rattle.session.specs.Turns.{Broke, Here, StopsBy, Went, point_at}
use Rattle.session.specs.declared.desk.Asked.{Asked}
use Rattle.session.specs.declared.session.SessionEnd.TheVariants.{Done, ReadFault, WriteFault, TooLong}
use Rattle.session.specs.declared.session.Turn.TheVariants.{Ended, NotYet}

-- what was done behind a turn that stopped is joined to it
went_on : (P Q : Point Asked Carried → Type 0) (alone : Bool) (from : Point Asked Carried) (mid here : Here)
    (w : Went P alone from mid) → Went Q alone (point_at mid w.open_text w.bytes) here → Went Q alone from here
went_on P Q alone from mid here w h = record {
  open_text = h.open_text;
  bytes = h.bytes;
  may = h.may;
  on = Going-join ReportLine alone from (point_at mid w.open_text w.bytes) (point_at here h.open_text h.bytes) w.on
      h.on;
  why = h.why;
}

-- and so where a put failed
broke_on : (P : Point Asked Carried → Type 0) (alone : Bool) (from : Point Asked Carried) (mid here : Here)
    (w : Went P alone from mid) → Broke alone (point_at mid w.open_text w.bytes) here → Broke alone from here
broke_on P alone from mid here w h =
    let at = point_at here h.open_text h.bytes in
    record {
      open_text = h.open_text;
      bytes = h.bytes;
      may = h.may;
      on = record {
        front = h.on.front;
        run = h.on.run;
        split = h.on.split;
        on = Going-join ReportLine alone from (point_at mid w.open_text w.bytes)
            (record at { work = record at.work { run = h.on.run } }) w.on h.on.on;
      };
    }

-- two turns are one
pub turns_join : TurnsJoin
turns_join NotYet alone from mid here w h = went_on (StopsBy NotYet) (StopsBy NotYet) alone from mid here w h
turns_join (Ended Done) alone from mid here w h =
    went_on (StopsBy NotYet) (StopsBy (Ended Done)) alone from mid here w h
turns_join (Ended ReadFault) alone from mid here w h =
    went_on (StopsBy NotYet) (StopsBy (Ended ReadFault)) alone from mid here w h
turns_join (Ended TooLong) alone from mid here w h =
    went_on (StopsBy NotYet) (StopsBy (Ended TooLong)) alone from mid here w h
turns_join (Ended WriteFault) alone from mid here w h = broke_on (StopsBy NotYet) alone from mid here w h

-- turns to an end are a session
pub turns_are_a_session : TurnsAreASession
turns_are_a_session = turn_ends

-- why a turn stopped has nothing to do with the shelf
stops_still : (a b : Point Asked Carried) → b.work ≡ a.work → b.rest ≡ a.rest → b.wire ≡ a.wire
    → StopsBy NotYet a → StopsBy NotYet b
stops_still a b work rest wire (inl owed) = inl (rw work owed)
stops_still a b work rest wire (inr on) = inr (record {
  through = record { idle = rw work on.through.idle; none = rw (rest, wire) on.through.none };
  on = rw rest on.on;
  unmet = rw wire on.unmet;
  more = rw rest on.more;
})

-- others published between two turns
pub others_may_publish : OthersMayPublish
others_may_publish from mid shelf w look held =
    let at = point_at mid w.open_text w.bytes in
    let next = record at { shelf = shelf } in
    record {
      open_text = w.open_text;
      bytes = w.bytes;
      may = record { text = w.may.text; rest = w.may.rest; unmet = w.may.unmet };
      on = goes_on ReportLine false from at next w.on (others_published at shelf look held);
      why = stops_still at next refl refl refl w.why;
    }
