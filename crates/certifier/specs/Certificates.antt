-- Which lines are a certificate, and the first fault of those that aren't.
use Rattle.std.specs.Prelude.{ℕ, ◌+◌, List, [], ◌∷◌, ◌++◌, Bool}
use Rattle.std.specs.Prelude.{not, ◌||◌, ◌==◌, nat_lt, nat_abs, ℤ, length}
use Rattle.std.specs.Prelude.{Some, None, Result, Ok, Err, if◌then◌else◌, slice_index_or}
use Rattle.std.specs.declared.option.Option.{Option}
use Rattle.cut_model.specs.Net.{Net}
use Rattle.cut_model.specs.declared.network.Link.{Link}
use Rattle.network_text.specs.Sheets.{SheetView, number_of}
use Rattle.network_text.specs.Texts.{Draft, no_draft, sheet_from, with_line}
use Rattle.network_text.specs.declared.fault.TextKind.{TextKind}
use Rattle.text_forms.specs.Lines.{fronts_of}
use Rattle.text_forms.specs.Numbers.{number_in}
use Rattle.text_forms.specs.Words.{is_end}
use Rattle.certifier.specs.Blocks.{router_but}
use Rattle.certifier.specs.Forms.{edge_words, is_done, is_skipped, is_title}
use Rattle.certifier.specs.Forms.{on_word, root_word, short_words}
use Rattle.certifier.specs.Forms.{signed_in}
use Rattle.certifier.specs.Trees.{Edge, Told, all_end_at_root, costs_width, leaks, sends_width}

-- A fault: its number, and the line of which it is told.
pub record Fault : Type 0 where
  pub number : ℕ
  pub line : ℕ

-- What the lines so far have told, which says what the next line must be: the title, a line of the network, the root,
-- an edge or the last line, or a value of the flow of an edge.
pub data Stage : Type 0 where
  Title : Stage
  Network : Draft → Stage
  Root : SheetView → Stage
  Between : Told → Stage
  Within : Told → Edge → Stage

-- What a line does: the certificate goes on, the line is its last one, or it has a fault.
pub data Taken : Type 0 where
  GoesOn : Stage → Taken
  Ends : Told → Taken
  Faulty : Fault → Taken

abbrev pub faulty : ℕ → ℕ → Taken
faulty number line = Faulty record { number = number; line = line }

-- A fault of this number in this line, or what is told is taken on.
abbrev pub or_faulty : {A : Type 0} → ℕ → ℕ → Option A → (A → Taken) → Taken
or_faulty number line None on = faulty number line
or_faulty number line (Some told) on = on told

-- The title.
abbrev pub take_title : ℕ → List ℕ → Taken
take_title number line = if is_title line then GoesOn (Network no_draft) else faulty 30 number

-- What is drafted of the network with one line more.
abbrev pub take_drafted : ℕ → Result Draft TextKind → Taken
take_drafted number (Ok draft) = GoesOn (Network draft)
take_drafted number (Err kind) = faulty 31 number

-- The last line of the network: some router must have been named.
abbrev pub take_end : ℕ → Draft → Taken
take_end number draft = if length draft.names == 0 then faulty 31 number else GoesOn (Root (sheet_from draft))

-- A line of the network.
abbrev pub take_network : ℕ → Draft → List ℕ → Taken
take_network number draft line =
    if is_end line then take_end number draft else take_drafted number (with_line draft line)

-- The root.
abbrev pub take_root : ℕ → SheetView → List ℕ → Taken
take_root number sheet line =
    or_faulty 30 number (root_word (short_words line)) (λ name.
    or_faulty 32 number (number_of sheet.names name) (λ root.
    GoesOn (Between (record { sheet = sheet; root = root; edges = [] }))))

-- The flow of an edge is whole: it must be kept at all other routers, and carry as much as the edge is wide.
abbrev pub take_whole : Told → Edge → Taken
take_whole told edge =
    if leaks told.sheet.net edge then faulty 36 edge.line
    else if not (sends_width told.sheet.net edge) then faulty 37 edge.line
    else GoesOn (Between (record told { edges = told.edges ++ edge ∷ [] }))

-- The flow of an edge goes on, or is whole.
abbrev pub take_flow : Told → Edge → Taken
take_flow told edge =
    if nat_lt (length edge.flow) (length told.sheet.net.links) then GoesOn (Within told edge) else take_whole told edge

-- The router whose edge is next.
abbrev pub next_child : Told → ℕ
next_child told = router_but told.root (length told.edges)

-- Two routers of which the first must be the next one, and the second another.
abbrev pub take_routers : ℕ → Told → List ℕ → ℕ → ℕ → Taken
take_routers number told width child up =
    if not (child == next_child told) || (up == child) then faulty 33 number
    else or_faulty 34 number (number_in width) (λ w.
    take_flow told (record { line = number; child = child; up = up; width = w; flow = [] }))

-- An edge.
abbrev pub take_edge : ℕ → Told → List ℕ → Taken
take_edge number told line =
    or_faulty 30 number (edge_words (short_words line)) (λ words.
    or_faulty 32 number (number_of told.sheet.names words.child) (λ child.
    or_faulty 32 number (number_of told.sheet.names words.up) (λ up.
    take_routers number told words.width child up)))

-- The last line.
abbrev pub take_done : ℕ → Told → List ℕ → Taken
take_done number told line = if is_done line then Ends told else faulty 30 number

-- An edge while some router has none, and then the last line.
abbrev pub take_between : ℕ → Told → List ℕ → Taken
take_between number told line =
    if nat_lt (length told.edges + 1) told.sheet.net.routers then take_edge number told line
    else take_done number told line

-- The link of this place.
abbrev pub link_at : Net → ℕ → Link
link_at net place = slice_index_or net.links place (record { a = 0; b = 0; cap = 0 })

-- A value of the flow of an edge, on the next link.
abbrev pub take_value : ℕ → Told → Edge → ℤ → Taken
take_value number told edge value =
    if nat_lt (link_at told.sheet.net (length edge.flow)).cap (nat_abs value) then faulty 35 number
    else take_flow told (record edge { flow = edge.flow ++ value ∷ [] })

abbrev pub take_on : ℕ → Told → Edge → List ℕ → Taken
take_on number told edge line =
    or_faulty 30 number (on_word (short_words line)) (λ word.
    or_faulty 34 number (signed_in word) (λ value. take_value number told edge value))

-- A line that isn't passed over.
abbrev pub take_counted : ℕ → Stage → List ℕ → Taken
take_counted number Title line = take_title number line
take_counted number (Network draft) line = take_network number draft line
take_counted number (Root sheet) line = take_root number sheet line
take_counted number (Between told) line = take_between number told line
take_counted number (Within told edge) line = take_on number told edge line

-- The line of this number. Lines are counted from 1.
abbrev pub take_line : ℕ → Stage → List ℕ → Taken
take_line number stage line = if is_skipped number line then GoesOn stage else take_counted number stage line

-- What lines come to: they decide nothing yet, they have a fault, or they tell a cut tree.
pub data Verdict : Type 0 where
  Undecided : Verdict
  Refused : Fault → Verdict
  Accepted : Told → Verdict

-- The first edge whose width isn't what is below its lower end costs.
abbrev pub costs_verdict : Told → List Edge → Verdict
costs_verdict told [] = Accepted told
costs_verdict told (edge ∷ edges) =
    if costs_width told edge then costs_verdict told edges else Refused record { number = 39; line = edge.line }

-- The verdict on what was told up to the last line, which has this number.
abbrev pub tree_verdict : ℕ → Told → Verdict
tree_verdict number told =
    if all_end_at_root told then costs_verdict told told.edges else Refused record { number = 38; line = number }

-- The fault of a text that ends at a stage.
abbrev pub end_fault : Stage → ℕ
end_fault Title = 30
end_fault (Network draft) = 31
end_fault (Root sheet) = 30
end_fault (Between told) = 30
end_fault (Within told edge) = 30

-- The verdict where a line does this, by what the lines behind it come to.
abbrev pub verdict_by : Taken → ℕ → (Stage → Verdict) → Verdict
verdict_by (GoesOn stage) number on = on stage
verdict_by (Ends told) number on = tree_verdict number told
verdict_by (Faulty fault) number on = Refused fault

-- The verdict on lines that follow so many lines, by whether the input ended behind them. What stands behind the last
-- line of a certificate, or behind a fault, isn't looked at.
abbrev pub verdict_from : Bool → ℕ → Stage → List (List ℕ) → Verdict
verdict_from ended seen stage [] =
    if ended then Refused record { number = end_fault stage; line = seen + 1 } else Undecided
verdict_from ended seen stage (line ∷ lines) =
    verdict_by (take_line (seen + 1) stage line) (seen + 1) (λ after. verdict_from ended (seen + 1) after lines)

-- The verdict on bytes that were read, by whether the input ended behind them.
abbrev pub verdict_on : Bool → List ℕ → Verdict
verdict_on ended bytes = verdict_from ended 0 Title (fronts_of ended bytes)
