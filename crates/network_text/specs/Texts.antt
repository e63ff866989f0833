-- What the lines of a network text say.
use Rattle.std.specs.Prelude.{ℕ, ◌+◌, List, [], ◌∷◌, ◌++◌, Bool, true, false, ◌==◌, ◌&&◌, nat_lt, nat_le, length, fold}
use Rattle.std.specs.Prelude.{codes, Some, None, Result, Ok, Err, if◌then◌else◌}
use Rattle.std.specs.List.{position_or_len, list_any}
use Rattle.std.specs.Str.{bytes_eq}
use Rattle.std.specs.declared.option.Option.{Option}
use Rattle.text_forms.specs.Lines.{is_long}
use Rattle.text_forms.specs.Names.{is_name}
use Rattle.text_forms.specs.Numbers.{number_in}
use Rattle.text_forms.specs.Words.{is_passed, line_words}
use Rattle.cut_model.specs.declared.network.Link.{Link}
use Rattle.cut_model.specs.declared.network.TheConstants.{MOST_CAPACITY, MOST_LINKS, MOST_ROUTERS}
use Rattle.network_text.specs.Sheets.{SheetView}
use Rattle.network_text.specs.declared.fault.TextFault.{TextFault}
use Rattle.network_text.specs.declared.fault.TextKind.{TextKind}
use Rattle.network_text.specs.declared.fault.TextKind.TheVariants.{UnknownWord, BadName, WrongCount, LineTooLong}
use Rattle.network_text.specs.declared.fault.TextKind.TheVariants.{BadNumber, CapTooLarge, TooManyRouters}
use Rattle.network_text.specs.declared.fault.TextKind.TheVariants.{TooManyLinks, NoTerminal, EndedEarly}

-- What the lines of a text have named so far, in order of appearance.
pub record Draft : Type 0 where
  pub names : List (List ℕ)
  pub links : List Link

-- Nothing was named yet.
abbrev pub no_draft : Draft
no_draft = record { names = []; links = [] }

-- A name that is new goes to the end.
abbrev pub with_name : List (List ℕ) → List ℕ → List (List ℕ)
with_name names name = if list_any (bytes_eq name) names then names else names ++ name ∷ []

-- The names after both ends of a link, the first first.
abbrev pub with_ends : List (List ℕ) → List ℕ → List ℕ → List (List ℕ)
with_ends names first second = with_name (with_name names first) second

-- The place of a name among names that have it.
abbrev pub place_of : List (List ℕ) → List ℕ → ℕ
place_of names name = position_or_len (bytes_eq name) names

-- The link between two named routers.
abbrev pub link_between : List (List ℕ) → List ℕ → List ℕ → ℕ → Link
link_between names first second cap = record { a = place_of names first; b = place_of names second; cap = cap }

-- The draft with these names and one link more, where the limits allow it.
abbrev pub with_link_among : List (List ℕ) → List Link → Link → Result Draft TextKind
with_link_among names links link =
    if nat_lt MOST_CAPACITY link.cap then Err CapTooLarge
    else if nat_lt MOST_ROUTERS (length names) then Err TooManyRouters
    else if nat_le MOST_LINKS (length links) then Err TooManyLinks
    else Ok record { names = names; links = links ++ link ∷ [] }

-- A link joins the routers of two names.
abbrev pub with_link : Draft → List ℕ → List ℕ → ℕ → Result Draft TextKind
with_link draft first second cap =
    let names = with_ends draft.names first second in
    with_link_among names draft.links (link_between names first second cap)

-- The same with the number that may stand in its place.
abbrev pub with_capacity : Draft → List ℕ → List ℕ → Option ℕ → Result Draft TextKind
with_capacity draft first second None = Err BadNumber
with_capacity draft first second (Some cap) = with_link draft first second cap

-- The draft with these names, where they aren't too many.
abbrev pub with_names : List (List ℕ) → List Link → Result Draft TextKind
with_names names links =
    if nat_lt MOST_ROUTERS (length names) then Err TooManyRouters else Ok record { names = names; links = links }

-- The words behind `router` are one name.
abbrev pub router_line : Draft → List (List ℕ) → Result Draft TextKind
router_line draft (name ∷ []) =
    if is_name name then with_names (with_name draft.names name) draft.links else Err BadName
router_line draft _ = Err WrongCount

-- The words behind `link` are two names and a number.
abbrev pub link_line : Draft → List (List ℕ) → Result Draft TextKind
link_line draft (first ∷ second ∷ number ∷ []) =
    if is_name first && is_name second then with_capacity draft first second (number_in number) else Err BadName
link_line draft _ = Err WrongCount

-- The first word says what the others are. The word `END` alone ends a text, so that here others follow it.
abbrev pub with_words : Draft → List (List ℕ) → Result Draft TextKind
with_words draft [] = Ok draft
with_words draft (word ∷ words) =
    if bytes_eq word (codes "router") then router_line draft words
    else if bytes_eq word (codes "link") then link_line draft words
    else if bytes_eq word (codes "END") then Err WrongCount
    else Err UnknownWord

-- What a line adds to what the lines before it named, or its fault: the first that applies.
abbrev pub with_line : Draft → List ℕ → Result Draft TextKind
with_line draft line =
    if is_passed line then Ok draft
    else if is_long line then Err LineTooLong
    else with_words draft (line_words line)

-- Where a text stands: how many lines have come, and what they name or the fault of the first faulty one.
pub record Progress : Type 0 where
  pub lines : ℕ
  pub draft : Result Draft TextFault

-- A fault is noted with the number of its line.
abbrev pub noted : ℕ → Result Draft TextKind → Result Draft TextFault
noted number (Ok draft) = Ok draft
noted number (Err kind) = Err record { kind = kind; line = number }

-- The line of this number; behind a faulty line nothing counts.
abbrev pub draft_after : ℕ → Result Draft TextFault → List ℕ → Result Draft TextFault
draft_after number (Err fault) line = Err fault
draft_after number (Ok draft) line = noted number (with_line draft line)

-- Where a text stands after one line more. Lines are counted from 1.
abbrev pub after_line : Progress → List ℕ → Progress
after_line progress line = record {
  lines = progress.lines + 1;
  draft = draft_after (progress.lines + 1) progress.draft line;
}

-- Where a text begins.
abbrev pub at_start : Progress
at_start = record { lines = 0; draft = Ok no_draft }

-- Where a text stands after these lines.
abbrev pub progress_of : List (List ℕ) → Progress
progress_of lines = fold after_line at_start lines

-- The sheet of a draft.
abbrev pub sheet_from : Draft → SheetView
sheet_from draft = record {
  names = draft.names;
  net = record { routers = length draft.names; links = draft.links };
}

-- The verdict on a text without a faulty line, by whether its END came, which is or would be the line of this number:
-- the sheet, or that no router was named, or that the input ended before END.
abbrev pub whole_verdict : ℕ → Bool → Draft → Result SheetView TextFault
whole_verdict number false draft = Err record { kind = EndedEarly; line = number }
whole_verdict number true draft =
    if length draft.names == 0 then Err record { kind = NoTerminal; line = number } else Ok (sheet_from draft)

-- The verdict on what lines name: a fault stays.
abbrev pub draft_verdict : ℕ → Bool → Result Draft TextFault → Result SheetView TextFault
draft_verdict number ended (Err fault) = Err fault
draft_verdict number ended (Ok draft) = whole_verdict number ended draft

-- The verdict where a text stands, by whether its END came.
abbrev pub verdict_at : Bool → Progress → Result SheetView TextFault
verdict_at ended progress = draft_verdict (progress.lines + 1) ended progress.draft

-- The verdict on the lines before the END, or on all lines where the input ended first.
abbrev pub verdict_of : List (List ℕ) → Bool → Result SheetView TextFault
verdict_of lines ended = verdict_at ended (progress_of lines)
