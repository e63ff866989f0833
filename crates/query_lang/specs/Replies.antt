-- The texts of replies. Each begins with the version of the network that it speaks of.
use Rattle.std.specs.Prelude.{ℕ, List, [], ◌∷◌, ◌++◌, Bool, length, codes, decimal, if◌then◌else◌, None}
use Rattle.std.specs.Prelude.{Some}
use Rattle.std.specs.List.{concat}
use Rattle.std.specs.declared.option.Option.{Option}
use Rattle.cut_model.specs.Net.{Net}
use Rattle.network_text.specs.Sheets.{SheetView}
use Rattle.network_text.specs.Writing.{sheet_lines, sheet_text, text_lines}

-- A network was accepted: its numbers of routers and links.
unfoldable pub loaded_text : ℕ → Net → List ℕ
loaded_text version net = concat (codes "@" ∷ decimal version ∷ codes " LOADED routers " ∷ decimal net.routers
    ∷ codes " links " ∷ decimal (length net.links) ∷ codes "\n" ∷ [])

-- The session is at its end.
unfoldable pub bye_text : ℕ → List ℕ
bye_text version = concat (codes "@" ∷ decimal version ∷ codes " BYE\n" ∷ [])

-- The first words of a refusal: the number of its reason.
abbrev pub refusal_head : ℕ → ℕ → List ℕ
refusal_head version number = concat (codes "@" ∷ decimal version ∷ codes " NO " ∷ decimal number ∷ [])

-- The line of which a refusal tells, and nothing where it tells of none.
abbrev pub line_piece : Option ℕ → List ℕ
line_piece None = []
line_piece (Some line) = concat (codes " line " ∷ decimal line ∷ [])

-- A request was refused, for the reason that the number stands for; that of a network text tells the faulty line.
unfoldable pub refused_text : ℕ → ℕ → Option ℕ → List ℕ
refused_text version number line = refusal_head version number ++ (line_piece line ++ codes "\n")

-- The first line of a reply: its word, and how many lines follow.
abbrev pub head_text : ℕ → List ℕ → ℕ → List ℕ
head_text version word lines =
    concat (codes "@" ∷ decimal version ∷ codes " " ∷ word ∷ codes " " ∷ decimal lines ∷ codes "\n" ∷ [])

-- The network, as a text that loads it again.
unfoldable pub net_text : ℕ → SheetView → List ℕ
net_text version sheet = head_text version (codes "NET") (sheet_lines sheet) ++ sheet_text sheet

-- The lines of the reply that tells a network.
unfoldable pub net_lines : ℕ → SheetView → List (List ℕ)
net_lines version sheet = head_text version (codes "NET") (sheet_lines sheet) ∷ text_lines sheet

-- A space and the name of a router that is in the side.
abbrev pub name_piece : List ℕ → Bool → List ℕ
name_piece name inside = if inside then concat (codes " " ∷ name ∷ []) else []

-- A space and the name of each router of a side, in number order.
abbrev pub side_names : List (List ℕ) → List Bool → List ℕ
side_names [] side = []
side_names (name ∷ names) [] = []
side_names (name ∷ names) (inside ∷ side) = name_piece name inside ++ side_names names side

-- The first words of a reply that tells a cut, up to the names: its word and the cut's value.
abbrev pub cut_head : ℕ → List ℕ → ℕ → List ℕ
cut_head version word value = concat (codes "@" ∷ decimal version ∷ codes " " ∷ word ∷ codes " " ∷ decimal value
    ∷ codes " side" ∷ [])

-- A cut, behind a word: its value, and the names of the routers on its side.
unfoldable pub cut_text : ℕ → List ℕ → ℕ → List (List ℕ) → List Bool → List ℕ
cut_text version word value names side = cut_head version word value ++ (side_names names side ++ codes "\n")
