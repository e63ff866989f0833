-- What a writer of lines promises.
use Rattle.std.specs.Prelude.{◌≡◌, ℕ, ◌-◌, ◌≤◌, List, length, Result, OnOk}
use Rattle.reply_lines.specs.Tails.{Leads, Spot, spot}
use Rattle.reply_lines.specs.declared.run.TheConstants.{MOST_REPLY_LINE_BYTES}
use Rattle.wires.specs.Puts.{Puts}
use Rattle.wires.specs.declared.sinks.Sink.{Ghosts}

-- A line that may stand at a place was put into a sink: all of it, or at a failure a front of it. It is no longer than
-- a line may be.
pub record PutsLine {S E C : Type 0} (g : Ghosts S) (old new : S) (result : Result (Unit {0}) E)
    (Line : ℕ → C → List ℕ → C → Type 0) (place : ℕ) (carry carry2 : C) : Type 0 where
  pub line : List ℕ
  pub is : Line place carry line carry2
  pub short : length line ≤ MOST_REPLY_LINE_BYTES
  pub puts : Puts g old new result line

-- A text that leads from a spot of a reply to a later one was put into a sink: all of it, or at a failure a front of
-- it.
pub record PutsTo {S E C : Type 0} (g : Ghosts S) (old new : S) (result : Result (Unit {0}) E)
    (Line : ℕ → C → List ℕ → C → Type 0) (from to : Spot C) : Type 0 where
  pub text : List ℕ
  pub leads : Leads C Line from text to
  pub puts : Puts g old new result text

-- Lines of a reply of n lines were put from the first one on: all of them, or at a failure those up to the one that
-- failed, and of these a front. Where they end is a spot of the reply, from which the others may follow.
pub record PutsLines {S E C : Type 0} (g : Ghosts S) (old new : S) (result : Result (Unit {0}) E)
    (Line : ℕ → C → List ℕ → C → Type 0) (n : ℕ) (carry : C) : Type 0 where
  pub last : Spot C
  pub within : last.place ≤ n
  pub left : last.left ≡ n - last.place
  pub puts : PutsTo g old new result Line (spot n 0 carry) last
  pub all : OnOk result (last.left ≡ 0)
