-- What putting the reply in work does to a session.
use Rattle.std.proofs.Common.{◌≡◌, ℕ, ◌≤◌, ◌<◌, List, [], Bool, true, length, refl, sym, ap, ◌∙◌, subst, take, drop}
use Rattle.std.proofs.Common.{take-append-drop, arith}
use Rattle.std.specs.Prelude.{None, Some}
use Rattle.std.specs.Io.KnownBytes.{Appends}
use Rattle.std.specs.declared.option.Option.{Option}
use Rattle.reply_lines.specs.Tails.{Leads, Spot}
use Rattle.session.proofs.Stretching.{Stretch-join, filled, put}
use Rattle.session.specs.Points.{Point, Rest, Stretch, Work}
use Rattle.certifier.specs.Blocks.{Carried}
use Rattle.session.specs.Reporting.{ReportLine}
use Rattle.session.specs.Shelved.{Shelved}
use Rattle.session.specs.Turns.{TurnCounts, is_owed}
use Rattle.session.specs.Writing.{PutBreaks, PutGoes, Written, point_of}
use Rattle.session.specs.declared.desk.Asked.{Asked}
use Rattle.session.specs.declared.session.SessionEnd.TheVariants.{Done, ReadFault, WriteFault, TooLong}
use Rattle.session.specs.declared.session.Turn.{Turn}
use Rattle.session.specs.declared.session.Turn.TheVariants.{Ended, NotYet}
use Rattle.tree_versions.specs.declared.shelf.TheConstants.{MOST_RECORDS}
use Rattle.wires.specs.Lazy.{Counts, PutCounts, PutTells, Wire}
use Rattle.wires.specs.declared.lazy.Taken.TheVariants as taken

-- counts with the same numbers are the same
pub same_counts : (a b : Counts) → b.read_faults ≡ a.read_faults → b.write_faults ≡ a.write_faults
    → b.reads_not_yet ≡ a.reads_not_yet → b.puts_not_yet ≡ a.puts_not_yet → b ≡ a
same_counts a b p q r s =
    ap (λ (n : ℕ). record b { read_faults = n }) p
    ∙ ap (λ (n : ℕ). record b { read_faults = a.read_faults; write_faults = n }) q
    ∙ ap (λ (n : ℕ). record a { reads_not_yet = n; puts_not_yet = b.puts_not_yet }) r
    ∙ ap (λ (n : ℕ). record a { puts_not_yet = n }) s

-- a put that succeeds counts nothing
pub put_counts : (count : ℕ) (a b : Counts) → PutCounts (taken.Bytes count) a b → b ≡ a
put_counts count a b c = same_counts a b c.read_faults c.cause.still c.reads_not_yet c.late.still

-- a put that isn't ready is counted
pub late_counts : (a b : Counts) → PutCounts taken.NotYet a b → TurnCounts NotYet true a b
late_counts a b c = record {
  read_faults = rw c.read_faults (record { later = omega arith; still = refl; failed = tt });
  write_faults = c.cause;
  reads_not_yet = rw c.reads_not_yet (record { later = omega arith; still = refl; failed = tt });
  puts_not_yet = c.late;
}

-- and so is one that fails
pub fault_counts : (owed : Bool) (a b : Counts) → PutCounts taken.Failed a b → TurnCounts (Ended WriteFault) owed a b
fault_counts owed a b c = record {
  read_faults = rw c.read_faults (record { later = omega arith; still = refl; failed = tt });
  write_faults = c.cause;
  reads_not_yet = rw c.reads_not_yet (record { later = omega arith; still = refl; failed = tt });
  puts_not_yet = c.late;
}

-- So many bytes of the run were taken, and nothing else changed.
pub record IsPassed (count : ℕ) (old new : Work Asked Carried) : Type 0 where
  pub run : new.run ≡ drop count old.run
  pub reply : new.reply ≡ old.reply
  pub at : new.at ≡ old.at

-- so the work is as before, but for its run
passed_is : (count : ℕ) (old new : Work Asked Carried) → IsPassed count old new
    → new ≡ record old { run = drop count old.run }
passed_is count old new p =
    ap (λ (r : List ℕ). record new { run = r }) p.run
    ∙ ap (λ (r : Asked). record { run = drop count old.run; reply = r; at = new.at }) p.reply
    ∙ ap (λ (r : Spot Carried). record { run = drop count old.run; reply = old.reply; at = r }) p.at

module _ (alone : Bool) (shelf : Shelved) (rest : Rest) (a : Point Asked Carried) (at : Written)
    (few : length shelf.seen ≤ MOST_RECORDS) (on : Stretch ReportLine alone a (point_of shelf rest at) []) where
  -- some bytes of the run were put
  pub put_goes : (wire : Wire) (work : Work Asked Carried) (count : ℕ) (piece : List ℕ) → piece ≡ at.work.run
      → PutTells (taken.Bytes count) piece at.wire wire → IsPassed count at.work work
      → Stretch ReportLine alone a (point_of shelf rest (record { wire = wire; work = work })) []
  put_goes wire work count piece whole tells passed =
      subst (λ (w : Work Asked Carried). Stretch ReportLine alone a
      (point_of shelf rest (record { wire = wire; work = w })) []) (sym (passed_is count at.work work passed))
      (Stretch-join ReportLine alone a (point_of shelf rest at)
      (point_of shelf rest (record { wire = wire; work = record at.work { run = drop count at.work.run } })) [] [] on
      (put ReportLine alone (point_of shelf rest at) few wire count tells.left tells.ended
      (subst (λ (p : List ℕ). Appends at.wire.written wire.written (take count p)) whole tells.bytes.1)))

  -- a put failed
  pub put_breaks : (wire : Wire) (piece : List ℕ) → piece ≡ at.work.run → PutTells taken.Failed piece at.wire wire
      → PutBreaks alone a (point_of shelf rest (record { wire = wire; work = at.work }))
  put_breaks wire piece whole tells = let count = tells.bytes.0 in record {
    front = take count at.work.run;
    run = drop count at.work.run;
    split = sym (take-append-drop count at.work.run);
    on = Stretch-join ReportLine alone a (point_of shelf rest at)
        (point_of shelf rest (record { wire = wire; work = record at.work { run = drop count at.work.run } })) [] [] on
        (put ReportLine alone (point_of shelf rest at) few wire count tells.left tells.ended
        (subst (λ (p : List ℕ). Appends at.wire.written wire.written (take count p)) whole tells.bytes.2));
  }

  -- the empty run was filled
  pub fill_goes : (work : Work Asked Carried) → at.work.run ≡ [] → work.reply ≡ at.work.reply
      → Leads Carried (ReportLine shelf.seen at.work.reply) at.work.at work.run work.at
      → Stretch ReportLine alone a (point_of shelf rest (record { wire = at.wire; work = work })) []
  fill_goes work none same leads =
      Stretch-join ReportLine alone a (point_of shelf rest at)
      (point_of shelf rest (record { wire = at.wire; work = work })) [] [] on
      (filled ReportLine alone (point_of shelf rest at) few work none same leads)

-- a reply is in work where bytes of its run are left
pub some_owed : (work : Work Asked Carried) → 0 < length work.run → is_owed work ≡ true
some_owed work some = grind arith

-- what putting did goes on from earlier work
pub PutGoes-join : (alone : Bool) (a b c : Point Asked Carried) (result : Option Turn)
    → Stretch ReportLine alone a b [] → PutGoes result alone b c → PutGoes result alone a c
PutGoes-join alone a b c None p q = Stretch-join ReportLine alone a b c [] [] p q
PutGoes-join alone a b c (Some NotYet) p q = Stretch-join ReportLine alone a b c [] [] p q
PutGoes-join alone a b c (Some (Ended WriteFault)) p q = record {
  front = q.front;
  run = q.run;
  split = q.split;
  on = Stretch-join ReportLine alone a b (record c { work = record c.work { run = q.run } }) [] [] p q.on;
}
PutGoes-join alone a b c (Some (Ended Done)) p q = absurd q
PutGoes-join alone a b c (Some (Ended ReadFault)) p q = absurd q
PutGoes-join alone a b c (Some (Ended TooLong)) p q = absurd q
