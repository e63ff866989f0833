-- What is judged of bytes as they are read, line by line.
use Rattle.std.specs.Prelude.{◌≡◌, ℕ, ◌+◌, ◌-◌, ◌*◌, ◌<◌, ◌≤◌, ◌⊎◌, ◌++◌, List}
use Rattle.std.specs.Prelude.{length, Bool, true, false, Some, Result, Ok, Err}
use Rattle.std.specs.Prelude.{[], ◌∷◌, codes, decimal}
use Rattle.std.specs.Io.KnownBytes.{Appends, Consumes}
use Rattle.std.specs.List.{concat}
use Rattle.std.specs.declared.option.Option.{Option}
use Rattle.line_reader.specs.Buffered.{Buffered, Holds}
use Rattle.line_reader.specs.declared.reader.TheConstants.{MOST_BYTES}
use Rattle.text_forms.specs.Lines.{fronts_of}
use Rattle.wires.specs.Lazy.{Wire}
use Rattle.certifier.specs.Certificates as told
use Rattle.certifier.specs.Certificates.{Verdict, Taken, verdict_by, verdict_from, verdict_on}
use Rattle.certifier.specs.Checks.{EndsBy}
use Rattle.certifier.specs.Stages.{GoesTo, IsReady, Shows}
use Rattle.certifier.specs.Trees.{Told}
use Rattle.certifier.specs.declared.checker.Checker.{Checker}
use Rattle.certifier.specs.declared.checking.CheckEnd.{CheckEnd}
use Rattle.certifier.specs.declared.checking.CheckEnd.TheVariants as ends
use Rattle.certifier.specs.declared.judged.Judged.{Judged}
use Rattle.certifier.specs.declared.judged.Judged.TheVariants.{Accepted, Refused, ReadFault, TooLong, NoMemory}
use Rattle.certifier.specs.declared.stage.Stage.{Stage}

-- what was judged is this verdict, unless memory was wanted
abbrev pub IsVerdict : Judged → Verdict → Type 0
IsVerdict (Accepted routers links) verdict = (tree : Told) × (verdict ≡ told.Accepted tree)
    × (routers ≡ tree.sheet.net.routers) × (links ≡ length tree.sheet.net.links)
IsVerdict (Refused fault) verdict = verdict ≡ told.Refused record { number = fault.number; line = fault.line }
IsVerdict ReadFault verdict = ⊥
IsVerdict TooLong verdict = ⊥
IsVerdict NoMemory verdict = Unit {0}

-- the same where so many bytes were taken: they may also decide nothing, where a read failed or all were taken that
-- may be
abbrev pub JudgedBy : Judged → Verdict → ℕ → Type 0
JudgedBy ReadFault verdict taken = (verdict ≡ told.Undecided) × (taken < MOST_BYTES)
JudgedBy TooLong verdict taken = (verdict ≡ told.Undecided) × (taken ≡ MOST_BYTES)
JudgedBy judged verdict taken = IsVerdict judged verdict

-- something was decided
abbrev pub IsDecided : Judged → Type 0
IsDecided (Accepted routers links) = Unit {0}
IsDecided (Refused fault) = Unit {0}
IsDecided judged = ⊥

-- the read failed
abbrev pub is_failed : Judged → Bool
is_failed ReadFault = true
is_failed judged = false

abbrev pub is_failed_step : Result (Unit {0}) Judged → Bool
is_failed_step (Ok done) = false
is_failed_step (Err judged) = is_failed judged

-- bytes were judged, which were taken of a peer. What stands behind them is not looked at.
pub record Judges (judged : Judged) (start now : Wire) : Type 0 where
  pub bytes : List ℕ
  pub gone : Consumes start.left now.left bytes
  pub most : length bytes ≤ MOST_BYTES
  pub tells : JudgedBy judged (verdict_on now.ended bytes) (length bytes)
  pub whole : IsDecided judged → (rest : List ℕ) → start.left ≡ Some (bytes ++ rest)
      → verdict_on true (bytes ++ rest) ≡ verdict_on now.ended bytes

-- Bytes were taken of a peer, and of these some belong to no line yet. What stands behind them decides together with
-- what the lines so far have told.
pub record Gone (start now : Wire) (kept : Checker) : Type 0 where
  pub bytes : List ℕ
  pub held : List ℕ
  pub stage : told.Stage
  pub gone : Consumes start.left now.left bytes
  pub count : length bytes ≡ kept.reader.taken
  pub holds : Holds kept.reader held
  pub shows : Shows stage kept.stage
  pub leads : (ended : Bool) (more : List ℕ)
      → verdict_on ended (bytes ++ more) ≡ verdict_from ended kept.seen stage (fronts_of ended (held ++ more))

-- the same before the end was met
pub record Goes (start now : Wire) (kept : Checker) : Type 0 where
  pub on : Gone start now kept
  pub unmet : 0 < kept.reader.taken → now.ended ≡ false

-- a step goes on, or something was judged
abbrev pub StepGoes : Result (Unit {0}) Judged → Wire → Wire → Checker → Type 0
StepGoes (Ok done) start now kept = Goes start now kept
StepGoes (Err judged) start now kept = Judges judged start now

-- a line was taken, the line of this number: the certificate goes on, or something was judged
abbrev pub TakesOn : Result (Unit {0}) Judged → ℕ → Taken → Stage → Type 0
TakesOn (Ok done) number taken kept = GoesTo kept taken
TakesOn (Err judged) number taken kept = (on : told.Stage → Verdict) → IsVerdict judged (verdict_by taken number on)

-- all is ready for the next line, and no more lines came than bytes
pub record IsSound (kept : Checker) : Type 0 where
  pub ready : IsReady (kept.seen + 1) kept.stage
  pub few : kept.seen + length kept.reader.bytes ≤ kept.reader.taken
  pub most : kept.reader.taken ≤ MOST_BYTES

-- how a check ends where this was judged
abbrev pub IsEndFor : Judged → CheckEnd → Type 0
IsEndFor (Accepted routers links) end = (end ≡ ends.Accepted) ⊎ (end ≡ ends.WriteFault)
IsEndFor (Refused fault) end = (end ≡ ends.Refused fault.number fault.line) ⊎ (end ≡ ends.WriteFault)
IsEndFor ReadFault end = end ≡ ends.ReadFault
IsEndFor TooLong end = end ≡ ends.TooLong
IsEndFor NoMemory end = end ≡ ends.NoMemory

-- how much a reader may still part into lines, each byte that wasn't read counted twice
abbrev pub to_do : Buffered → ℕ
to_do reader = 2 * (MOST_BYTES - reader.taken) + length reader.bytes

-- the line that tells that a certificate was accepted
unfoldable pub accepted_text : ℕ → ℕ → List ℕ
accepted_text routers links =
    concat (codes "accepted routers " ∷ decimal routers ∷ codes " links " ∷ decimal links ∷ codes "\n" ∷ [])

-- the line that tells its first fault
unfoldable pub refused_text : ℕ → ℕ → List ℕ
refused_text number line =
    concat (codes "refused " ∷ decimal number ∷ codes " line " ∷ decimal line ∷ codes "\n" ∷ [])

-- what was written where this was judged, by how the check ends
abbrev pub TellsEnd : Judged → CheckEnd → Option (List ℕ) → Option (List ℕ) → Type 0
TellsEnd judged end before now =
    (verdict : Verdict) (taken : ℕ) → JudgedBy judged verdict taken
    → (text : List ℕ) × Appends before now text × EndsBy end verdict taken text
