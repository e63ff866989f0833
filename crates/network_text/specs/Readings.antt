-- What a reader keeps.
use Rattle.std.specs.Prelude.{◌≡◌, ℕ, ◌+◌, ◌^◌, ◌≤◌, ◌⊎◌, List, Bool, true, length, nat_lt, All, IsTrue, Result}
use Rattle.std.specs.Prelude.{Ok, Err, Some, None}
use Rattle.std.specs.declared.option.Option.{Option}
use Rattle.text_forms.specs.Names.{is_name}
use Rattle.cut_model.specs.Net.{IsLink}
use Rattle.cut_model.specs.declared.network.Link.{Link}
use Rattle.cut_model.specs.declared.network.TheConstants.{MOST_LINKS, MOST_ROUTERS}
use Rattle.network_text.specs.Texts.{Draft, Progress, after_line, no_draft}
use Rattle.network_text.specs.Sheets.{SheetView}
use Rattle.network_text.specs.declared.fault.TextFault.{TextFault}
use Rattle.network_text.specs.declared.fault.TextKind.{TextKind}
use Rattle.network_text.specs.declared.fault.TextKind.TheVariants.{Memory, TooManyRouters}

-- Names and links are within the limits of a network, except that there may be none.
pub record IsWithinLimits (names : List (List ℕ)) (links : List Link) : Type 0 where
  pub named : All (λ name. IsTrue (is_name name)) names
  pub few_names : length names ≤ MOST_ROUTERS
  pub few_links : length links ≤ MOST_LINKS
  pub within : All (IsLink (length names)) links

-- Names and links are no more than a network may have.
pub record IsBounded (names : List (List ℕ)) (links : List Link) : Type 0 where
  pub few_names : length names ≤ MOST_ROUTERS
  pub few_links : length links ≤ MOST_LINKS

-- What a reader has made of the lines so far, and what it keeps of them. Where memory was wanted for one, it is noted
-- like a fault.
pub record Reading : Type 0 where
  pub progress : Progress
  pub kept : Draft
  pub ended : Bool

-- What is kept of the lines: what they name, and nothing once something was noted.
abbrev pub kept_at : Result Draft TextFault → Draft
kept_at (Ok draft) = draft
kept_at (Err fault) = no_draft

-- Memory was wanted.
abbrev pub IsWant : {A : Type 0} → Result A TextFault → Type 0
IsWant (Ok value) = ⊥
IsWant (Err fault) = fault.kind ≡ Memory

-- Nothing is noted yet.
abbrev pub IsClean : {A : Type 0} → Result A TextFault → Type 0
IsClean (Ok value) = Unit {0}
IsClean (Err fault) = ⊥

-- Memory was wanted for the next line, when nothing had been noted.
pub record IsLost (old new : Progress) : Type 0 where
  pub clean : IsClean old.draft
  pub want : IsWant new.draft
  pub lines : new.lines ≡ old.lines + 1

-- A line was taken as the text says, or memory was wanted for it.
abbrev pub TakesLine : Progress → List ℕ → Progress → Type 0
TakesLine old line new = (new ≡ after_line old line) ⊎ IsLost old new

-- A reader that is closed gives the verdict; in place of a sheet it may say that memory was wanted.
abbrev pub Closes : Result SheetView TextFault → Result SheetView TextFault → Type 0
Closes (Err fault) result = result ≡ Err fault
Closes (Ok sheet) result = (result ≡ Ok sheet) ⊎ IsWant result

-- What a line says was added to a draft, or told as its fault, or memory was wanted.
abbrev pub Adds : Result Draft TextKind → Result (Unit {0}) TextKind → Draft → Type 0
Adds said (Ok done) new = said ≡ Ok new
Adds said (Err kind) new = (said ≡ Err kind) ⊎ (kind ≡ Memory)

-- A name was refused because the names would be too many with it, or memory was wanted for it.
abbrev pub IsRefusal : List (List ℕ) → TextKind → Type 0
IsRefusal names kind = ((nat_lt MOST_ROUTERS (length names) ≡ true) × (kind ≡ TooManyRouters)) ⊎ (kind ≡ Memory)

-- What counts of what was drafted: all of it, until something was noted.
abbrev pub draft_at : Option TextFault → Draft → Result Draft TextFault
draft_at None draft = Ok draft
draft_at (Some fault) draft = Err fault

-- What counts is within the limits.
abbrev pub KeepsLimits : Option TextFault → Draft → Type 0
KeepsLimits None draft = IsWithinLimits draft.names draft.links
KeepsLimits (Some fault) draft = Unit {0}

-- A reader was given at most 2^31 lines, what counts is within the limits, and what is kept isn't too much.
pub record KeepsBounds (lines : ℕ) (noted : Option TextFault) (draft : Draft) : Type 0 where
  pub few_lines : lines ≤ 2 ^ 31
  pub limits : KeepsLimits noted draft
  pub bounded : IsBounded draft.names draft.links
