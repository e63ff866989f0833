-- What a check of a certificate did.
use Rattle.std.specs.Prelude.{◌≡◌, ℕ, ◌<◌, ◌≤◌, List, [], ◌∷◌, Bool, true, false, length, codes, decimal, take}
use Rattle.std.specs.Io.KnownBytes.{Appends, Consumes}
use Rattle.std.specs.List.{concat}
use Rattle.line_reader.specs.declared.reader.TheConstants.{MOST_BYTES}
use Rattle.wires.specs.Lazy.{Wire}
use Rattle.certifier.specs.Certificates.{Verdict, Undecided, Refused as refused}
use Rattle.certifier.specs.Certificates.{Accepted as accepted, verdict_on}
use Rattle.certifier.specs.Trees.{Told}
use Rattle.certifier.specs.declared.checking.CheckEnd.{CheckEnd}
use Rattle.certifier.specs.declared.checking.CheckEnd.TheVariants.{Accepted, Refused, ReadFault, WriteFault}
use Rattle.certifier.specs.declared.checking.CheckEnd.TheVariants.{TooLong, NoMemory}

-- The line that tells a verdict; there is none where nothing was decided.
abbrev pub verdict_text : Verdict → List ℕ
verdict_text Undecided = []
verdict_text (refused fault) =
    concat (codes "refused " ∷ decimal fault.number ∷ codes " line " ∷ decimal fault.line ∷ codes "\n" ∷ [])
verdict_text (accepted told) =
    concat (codes "accepted routers " ∷ decimal told.sheet.net.routers ∷ codes " links "
    ∷ decimal (length told.sheet.net.links) ∷ codes "\n" ∷ [])

-- The end tells this verdict.
abbrev pub Tells : CheckEnd → Verdict → Type 0
Tells Accepted verdict = (told : Told) × (verdict ≡ accepted told)
Tells (Refused fault line) verdict = verdict ≡ refused record { number = fault; line = line }
Tells end verdict = ⊥

-- How a check may end by the verdict on the bytes that were taken, so many, and by the text that was written. It tells
-- the verdict, and its line was written; or the put failed, and a front of that line was written; or the lines decide
-- nothing, and a read failed, or MOST_BYTES were taken. Want of memory may come at any moment before the line is
-- written.
abbrev pub EndsBy : CheckEnd → Verdict → ℕ → List ℕ → Type 0
EndsBy Accepted verdict taken text = Tells Accepted verdict × (text ≡ verdict_text verdict)
EndsBy (Refused fault line) verdict taken text = Tells (Refused fault line) verdict × (text ≡ verdict_text verdict)
EndsBy ReadFault verdict taken text = (verdict ≡ Undecided) × (taken < MOST_BYTES) × (text ≡ [])
EndsBy WriteFault verdict taken text =
    (verdict ≡ Undecided → ⊥) × ((n : ℕ) × (text ≡ take n (verdict_text verdict)))
EndsBy TooLong verdict taken text = (verdict ≡ Undecided) × (taken ≡ MOST_BYTES) × (text ≡ [])
EndsBy NoMemory verdict taken text = text ≡ []

-- A check ended so: it took bytes, at most MOST_BYTES, and wrote a text.
pub record Checks (end : CheckEnd) (start now : Wire) : Type 0 where
  pub bytes : List ℕ
  pub text : List ℕ
  pub gone : Consumes start.left now.left bytes
  pub wrote : Appends start.written now.written text
  pub most : length bytes ≤ MOST_BYTES
  pub ends : EndsBy end (verdict_on now.ended bytes) (length bytes) text

-- the check ended by a failed read
abbrev pub is_read_fault : CheckEnd → Bool
is_read_fault ReadFault = true
is_read_fault end = false

-- the check ended by a failed put
abbrev pub is_write_fault : CheckEnd → Bool
is_write_fault WriteFault = true
is_write_fault end = false
