-- One line in a session, and what stands after the lines that have come.
use Rattle.std.specs.Prelude.{◌≡◌, ℕ, ◌+◌, ◌≤◌, List, [], ◌∷◌, ◌++◌, Bool, true, false, length, if◌then◌else◌}
use Rattle.std.specs.Prelude.{None, Some, Result}
use Rattle.std.specs.declared.option.Option.{Option}
use Rattle.network_text.specs.Sheets.{SheetView}
use Rattle.network_text.specs.declared.fault.TextFault.{TextFault}
use Rattle.session.specs.Answers.{Answers, LoadStep}
use Rattle.session.specs.Shelved.{Shelved}
use Rattle.text_forms.specs.Items.{Item, Ask, Load}
use Rattle.text_forms.specs.Words.{is_passed, is_load, is_end, is_bye}
use Rattle.tree_versions.specs.Records.{RecordView, Grows}
use Rattle.tree_versions.specs.declared.shelf.TheConstants.{MOST_RECORDS}

-- the text that is open after a line which is no BYE
abbrev pub next_text : Option (List (List ℕ)) → List ℕ → Option (List (List ℕ))
next_text None line = if is_passed line then None else if is_load line then Some [] else None
next_text (Some text) line = if is_end line then None else Some (text ++ line ∷ [])

-- the item that such a line makes whole, if it does
abbrev pub gives : Option (List (List ℕ)) → List ℕ → List Item
gives None line = if is_passed line then [] else if is_load line then [] else Ask line ∷ []
gives (Some text) line = if is_end line then Load text true ∷ [] else []

-- A version that replies may have come to: none that wasn't seen, and where nobody else publishes the last one.
pub record IsReached (alone : Bool) (records : List RecordView) (version : ℕ) : Type 0 where
  pub there : version ≤ length records
  pub last : alone ≡ true → version ≡ length records

-- P holds of a version that replies may have come to.
pub record AtSomeVersion (alone : Bool) (records : List RecordView) (P : ℕ → Type 0) : Type 0 where
  pub last : ℕ
  pub reached : IsReached alone records last
  pub fact : P last

-- The records grew, and P leads on from each version that replies may have come to before.
pub record LeadsOn (alone : Bool) (old new : List RecordView) (P : ℕ → ℕ → Type 0) : Type 0 where
  pub grows : Grows old new
  pub few : length new ≤ MOST_RECORDS
  pub on : (seen : ℕ) → IsReached alone old seen → AtSomeVersion alone new (P seen)

-- The items are answered by the text, which leads from these records to those, and the number of records that were
-- published grew by the accepted LOADs.
pub record Gives (alone : Bool) (old : Shelved) (items : List Item) (text : List ℕ) (new : Shelved) : Type 0 where
  pub loads : ℕ
  pub counted : new.published ≡ old.published + loads
  pub leads : LeadsOn alone old.seen new.seen (λ seen next. Answers alone new.seen seen items text next loads)

-- A network with this verdict was loaded, and this is the reply.
pub record Loads (alone : Bool) (old : Shelved) (verdict : Result SheetView TextFault) (reply : List ℕ)
    (new : Shelved) : Type 0 where
  pub loads : ℕ
  pub counted : new.published ≡ old.published + loads
  pub leads : LeadsOn alone old.seen new.seen (λ seen next. LoadStep alone new.seen seen verdict reply next loads)

-- The records begin with those that were seen at the start, the text answers the items from their last version on, and
-- the number of records that were published grew by the accepted LOADs.
pub record IsServed (alone : Bool) (start now : Shelved) (items : List Item) (text : List ℕ) : Type 0 where
  pub loads : ℕ
  pub grows : Grows start.seen now.seen
  pub counted : now.published ≡ start.published + loads
  pub answers : AtSomeVersion alone now.seen
      (λ last. Answers alone now.seen (length start.seen) items text last loads)

-- a line that is no BYE between items
abbrev pub IsQuiet : Option (List (List ℕ)) → List ℕ → Type 0
IsQuiet open_text line = open_text ≡ None → is_passed line ≡ false → is_load line ≡ false → is_bye line ≡ false

-- a line that is a BYE
pub record IsByeLine (line : List ℕ) : Type 0 where
  pub passed : is_passed line ≡ false
  pub load : is_load line ≡ false
  pub bye : is_bye line ≡ true
