-- Sheets as texts, and texts as bytes.
use Rattle.std.specs.Prelude.{ℕ, ◌+◌, length, List, [], ◌∷◌, ◌++◌, Bool, true, false, map, codes, decimal}
use Rattle.std.specs.Prelude.{Result, if◌then◌else◌, slice_index_or}
use Rattle.std.specs.List.{concat}
use Rattle.cut_model.specs.declared.network.Link.{Link}
use Rattle.network_text.specs.Sheets.{SheetView}
use Rattle.network_text.specs.Texts.{verdict_of}
use Rattle.network_text.specs.declared.fault.TextFault.{TextFault}
use Rattle.text_forms.specs.Lines.{fronts_of}
use Rattle.text_forms.specs.Words.{is_end}

-- The line that names a router.
abbrev pub router_text : List ℕ → List ℕ
router_text name = concat (codes "router " ∷ name ∷ codes "\n" ∷ [])

-- The name of a router.
abbrev pub name_at : List (List ℕ) → ℕ → List ℕ
name_at names router = slice_index_or names router []

-- The line of a link.
abbrev pub link_text : List (List ℕ) → Link → List ℕ
link_text names link = concat (codes "link " ∷ name_at names link.a ∷ codes " " ∷ name_at names link.b ∷ codes " "
    ∷ decimal link.cap ∷ codes "\n" ∷ [])

-- A line for each router in number order, a line for each link in order, and END.
unfoldable pub sheet_text : SheetView → List ℕ
sheet_text sheet = concat (map router_text sheet.names)
    ++ (concat (map (link_text sheet.names) sheet.net.links) ++ codes "END\n")

-- The same as a list of lines.
abbrev pub text_lines : SheetView → List (List ℕ)
text_lines sheet = map router_text sheet.names ++ (map (link_text sheet.names) sheet.net.links ++ codes "END\n" ∷ [])

-- How many lines that are.
abbrev pub sheet_lines : SheetView → ℕ
sheet_lines sheet = sheet.net.routers + length sheet.net.links + 1

-- The lines before the first END, or all where there is none.
abbrev pub before_end : List (List ℕ) → List (List ℕ)
before_end [] = []
before_end (line ∷ lines) = if is_end line then [] else line ∷ before_end lines

-- There is an END line.
abbrev pub has_end : List (List ℕ) → Bool
has_end [] = false
has_end (line ∷ lines) = if is_end line then true else has_end lines

-- The verdict on the text with which bytes begin.
abbrev pub verdict_in : List ℕ → Result SheetView TextFault
verdict_in bytes = let lines = fronts_of true bytes in verdict_of (before_end lines) (has_end lines)
