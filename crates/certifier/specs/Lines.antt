-- What the writers of flows tell, and what they promise.
use Rattle.std.specs.Prelude.{◌≡◌, ◌≢◌, ℕ, ◌+◌, ◌-◌, ◌<◌, ◌≤◌, Bool, true, false, List, [], ◌∷◌, OnOk, Result, Ok, Err}
use Rattle.std.specs.Prelude.{codes, decimal}
use Rattle.std.specs.List.{concat}
use Rattle.cut_model.specs.Net.{Net}
use Rattle.cut_model.specs.Terminals.{root_of}
use Rattle.network_text.specs.Sheets.{SheetView}
use Rattle.network_text.specs.Writing.{name_at}
use Rattle.reply_lines.specs.Puts.{PutsLine, PutsLines, PutsTo}
use Rattle.reply_lines.specs.Tails.{Spot, spot}
use Rattle.tree_state.specs.Views.{TreeView}
use Rattle.wires.specs.declared.sinks.Sink.{Ghosts}
use Rattle.certifier.specs.Blocks.{Carried, IsLaidOut, Layout, LayoutLine, block_place, layout_size}

-- An edge leads up from a router: it is one of the network, and not the root.
pub record IsLowerEnd (net : Net) (child : ℕ) : Type 0 where
  pub within : child < net.routers
  pub not_root : child ≢ root_of net

-- The line of a word, two routers and a number.
abbrev pub words_text : List ℕ → List (List ℕ) → ℕ → ℕ → ℕ → List ℕ
words_text word names child up width = concat (word ∷ codes " " ∷ name_at names child ∷ codes " "
    ∷ name_at names up ∷ codes " " ∷ decimal width ∷ codes "\n" ∷ [])

-- What is told line by line: a network with its names, its tree, and what is laid out of these; and the ghost name of
-- the room in which flows are carried, so that who lent the room knows what is in it afterwards.
pub record LinesTold : Type 0 where
  pub sheet : SheetView
  pub tree : TreeView
  pub layout : Layout
  pub room : ℕ

abbrev pub lines_told : SheetView → TreeView → Layout → ℕ → LinesTold
lines_told sheet tree layout room = record { sheet = sheet; tree = tree; layout = layout; room = room }

-- All lines of a layout were put into a sink, in their order; or at a failure those up to the one that failed, and of
-- these a front.
pub record PutsLaidOut {S E : Type 0} (g : Ghosts S) (old new : S) (result : Result (Unit {0}) E)
    (names : List (List ℕ)) (tree : TreeView) (layout : Layout) : Type 0 where
  pub first : Carried
  pub lines : PutsLines g old new result (LayoutLine names tree layout) (layout_size tree.net layout) first
  pub all : OnOk result (IsLaidOut names tree layout lines.puts.text)

-- The lines of a block were put, all of them; or at a failure those up to the one that failed, and of these a front.
-- Where they end is a spot of the layout.
pub record PutsBlock {S E : Type 0} (g : Ghosts S) (old new : S) (result : Result (Unit {0}) E) (told : LinesTold)
    (block : ℕ) (carry carry2 : Carried) : Type 0 where
  pub last : Spot Carried
  pub within : last.place ≤ layout_size told.tree.net told.layout
  pub left : last.left ≡ layout_size told.tree.net told.layout - last.place
  pub puts : PutsTo g old new result (LayoutLine told.sheet.names told.tree told.layout)
      (spot (layout_size told.tree.net told.layout) (block_place told.tree.net told.layout block 0) carry) last
  pub all : OnOk result (last
      ≡ spot (layout_size told.tree.net told.layout) (block_place told.tree.net told.layout (block + 1) 0) carry2)

-- There is a line at a place, and it was put: all of it, or at a failure a front of it.
pub record PutsThere {S E : Type 0} (g : Ghosts S) (old new : S) (result : Result (Unit {0}) E) (told : LinesTold)
    (place : ℕ) (carry carry2 : Carried) : Type 0 where
  pub within : place < layout_size told.tree.net told.layout
  pub puts : PutsLine g old new result (LayoutLine told.sheet.names told.tree told.layout) place carry carry2

-- There is no line at a place, and nothing was put.
pub record PutsNone {S : Type 0} (old new : S) (told : LinesTold) (place : ℕ) (carry carry2 : Carried) : Type 0 where
  pub past : layout_size told.tree.net told.layout ≤ place
  pub still : new ≡ old
  pub kept : carry2 ≡ carry

-- The line of a place was put, or there is none and nothing was put, as the answer says.
abbrev pub PutsLaidAt : {S E : Type 0} → Ghosts S → S → S → Result Bool E → LinesTold → ℕ → Carried → Carried → Type 0
PutsLaidAt {E = E} g old new (Ok true) told place carry carry2 =
    PutsThere {E = E} g old new (Ok tt) told place carry carry2
PutsLaidAt g old new (Ok false) told place carry carry2 = PutsNone old new told place carry carry2
PutsLaidAt g old new (Err e) told place carry carry2 = PutsThere g old new (Err e) told place carry carry2
