-- One more line in a run, and behind the lines that were put.
use Rattle.std.proofs.Common.{◌≡◌, ℕ, ◌+◌, ◌-◌, ◌<◌, ◌≤◌, List, [], ◌++◌, length, arith, Result, Ok, Err, Some}
use Rattle.std.proofs.Common.{IsTrue, nat_le, refl}
use Rattle.std.specs.Prelude.{OnOk}
use Rattle.std.specs.Result.{IsErr}
use Rattle.std.proofs.lemmas.Bool.{le-leb, leb-true}
use Rattle.std.proofs.lemmas.List.{append-nil}
use Rattle.reply_lines.specs.Puts.{PutsLine, PutsLines, PutsTo}
use Rattle.reply_lines.specs.Tails.{Spot, spot}
use Rattle.reply_lines.proofs.Tailing.{Leads-trans, place_leads}
use Rattle.wires.specs.Bytes.{PutAppends}
use Rattle.wires.specs.Puts.{Puts}
use Rattle.wires.specs.declared.sinks.Sink.{Ghosts}
use Rattle.wires.proofs.Puts.{puts_failed, puts_same, puts_then}

-- Behind a text that leads to a place the line of that place was put.
pub puts_next : {S C D E : Type 0} {g : Ghosts S} {old mid new : S} {u : Unit {0}} {result : Result (Unit {0}) E}
    (Line : ℕ → C → List ℕ → C → Type 0) (from : Spot C) (n place : ℕ) (carry carry2 : C) → place < n
    → PutsTo {E = D} g old mid (Ok u) Line from (spot n place carry)
    → PutsLine g mid new result Line place carry carry2 → PutsTo g old new result Line from (spot n (place + 1) carry2)
puts_next {C = C} Line from n place carry carry2 low before put = record {
  text = before.text ++ put.line;
  leads = Leads-trans C Line from (spot n place carry) (spot n (place + 1) carry2) before.text put.line before.leads
      (place_leads C Line n place carry carry2 put.line low put.is);
  puts = puts_then before.text put.line before.puts put.puts;
}

-- A text that failed to be put did so whatever error is told.
puts_err : {S D E : Type 0} {g : Ghosts S} {old new : S} {d : D} (text : List ℕ) (result : Result (Unit {0}) E)
    → IsErr result → Puts {E = D} g old new (Err d) text → Puts g old new result text
puts_err text result failed put = puts_same (append-nil text) (puts_failed text [] result failed put)

-- Of an error nothing is asked that is asked of success.
none_asked : {E : Type 0} (P : Type 0) (result : Result (Unit {0}) E) → IsErr result → OnOk result P
none_asked P (Ok u) failed = absurd (cc)
none_asked P (Err e) failed = tt

-- Behind a text that leads to a place the line of that place failed to be put.
pub puts_stopped : {S C D F E : Type 0} {g : Ghosts S} {old mid new : S} {u : Unit {0}} {d : D}
    (Line : ℕ → C → List ℕ → C → Type 0) (n place : ℕ) (first carry carry2 : C) → place < n
    → PutsTo {E = F} g old mid (Ok u) Line (spot n 0 first) (spot n place carry)
    → PutsLine {E = D} g mid new (Err d) Line place carry carry2
    → (result : Result (Unit {0}) E) → IsErr result → PutsLines g old new result Line n first
puts_stopped Line n place first carry carry2 low before put result failed =
    let both = puts_next Line (spot n 0 first) n place carry carry2 low before put in
    record {
      last = spot n (place + 1) carry2;
      within = omega (arith, low);
      left = refl;
      puts = record { text = both.text; leads = both.leads; puts = puts_err both.text result failed both.puts };
      all = none_asked _ result failed;
    }

-- A run that took a line has it behind what it had.
pub appended : {E : Type 0} (before now line : List ℕ) (result : Result (Unit {0}) E) (u : Unit {0}) → result ≡ Ok u
    → PutAppends (Some before) (Some now) result line → now ≡ before ++ line
appended before now line (Ok v) u ok put = put
appended before now line (Err e) u ok put = absurd (cc)

-- A run that surely takes a line and what fits behind it loses no more room than the line's.
pub room_left : (line : List ℕ) (room now : ℕ) → length line ≤ room
    → ((n : ℕ) → IsTrue (nat_le (length line + n) room) → IsTrue (nat_le n now)) → room ≤ length line + now
room_left line room now fits keeps =
    let left : room - length line ≤ now =
    leb-true (room - length line) now (keeps (room - length line) (le-leb _ _ (omega arith))) in
    omega arith
