-- A reply of one line fits into an empty run.
use Rattle.std.proofs.Common.{◌≡◌, ℕ, ◌+◌, ◌<◌, ◌≤◌, List, [], ◌++◌, true, IsTrue, nat_le, length, arith, ap}
use Rattle.std.proofs.Common.{length-append, Some, Ok, Result, ◌∙◌}
use Rattle.std.proofs.lemmas.Bool.{le-leb, lt-ltb}
use Rattle.std.specs.declared.option.Option.{Option}
use Rattle.query_lang.proofs.Lengths.{length-short_head}
use Rattle.query_lang.specs.Replies.{head_text, refused_text}
use Rattle.reply_lines.specs.Runs.{RunView, empty_run}
use Rattle.reply_lines.specs.declared.run.TheConstants.{MOST_REPLY_LINE_BYTES}
use Rattle.reply_lines.proofs.Filling.{appended}
use Rattle.session.specs.Points.{Work}
use Rattle.certifier.specs.Blocks.{Carried}
use Rattle.session.specs.Turns.{is_owed}
use Rattle.session.specs.declared.desk.Asked.{Asked}
use Rattle.wires.specs.Bytes.{PutAppends}

-- An empty run surely takes a text that isn't too long.
pub takes_text : (run : RunView) (faults : ℕ) (text : List ℕ) → run ≡ empty_run faults
    → length text ≤ MOST_REPLY_LINE_BYTES
    → IsTrue (nat_le (length text + 0) run.room)
takes_text run faults text empty short = le-leb _ _ (omega (arith, ap (λ (r : RunView). r.room) empty))

-- What was put into an empty run is all that it has.
pub put_alone : {E : Type 0} {run : RunView} {faults : ℕ} {now : List ℕ} {result : Result (Unit {0}) E} (text : List ℕ)
    (done : Unit {0}) → run ≡ empty_run faults → result ≡ Ok done → PutAppends (Some run.rest) (Some now) result text
    → now ≡ text
put_alone {run = run} {now = now} {result = result} text done empty ok put =
    appended run.rest now text result done ok put ∙ ap (λ (r : RunView). r.rest ++ text) empty

-- A refusal isn't empty.
pub refused_some : (version number : ℕ) (line : Option ℕ) → 0 < length (refused_text version number line)
unfolding refused_text
refused_some version number line = simp length-append (omega arith)

-- A refusal is owed until it is taken.
pub refused_owed : (work : Work Asked Carried) (version number : ℕ) (line : Option ℕ)
    → work.run ≡ refused_text version number line → is_owed work ≡ true
refused_owed work version number line is =
    lt-ltb 0 (length work.run + work.at.left)
    (omega (arith, ap (λ (t : List ℕ). length t) is, refused_some version number line))

-- A first line is as much longer as its word is.
head_longer : (version lines : ℕ) (word : List ℕ)
    → length (head_text version word lines) ≡ length (head_text version [] lines) + length word
head_longer version lines word = simp length-append (omega arith)

-- So it is short where that is.
pub length-head : (version lines : ℕ) (word : List ℕ) → length word ≤ 16
    → length (head_text version word lines) ≤ MOST_REPLY_LINE_BYTES
length-head version lines word short =
    omega (arith, head_longer version lines word, length-short_head version lines [] (omega arith), short)
