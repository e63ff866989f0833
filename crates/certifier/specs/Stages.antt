-- What is kept of what the lines of a certificate have told.
use Rattle.std.specs.Prelude.{◌≡◌, ℕ, ◌+◌, ◌-◌, ◌^◌, ◌<◌, min, List, length}
use Rattle.std.specs.Prelude.{false}
use Rattle.std.specs.Prelude.{Ok, Err, Result}
use Rattle.cut_model.specs.Net.{Net}
use Rattle.network_text.specs.declared.fault.TextFault.{TextFault}
use Rattle.network_text.specs.declared.fault.TextKind.TheVariants.{Memory}
use Rattle.certifier.specs.Certificates as told
use Rattle.certifier.specs.Kept.{IsKept, KeptTree, next_in}
use Rattle.certifier.specs.Sums.{HasSums}
use Rattle.certifier.specs.Trees.{Edge, Told}
use Rattle.network_text.specs.Sheets.{number_of}
use Rattle.certifier.specs.declared.stage.Stage.{Stage}
use Rattle.certifier.specs.declared.stage.Stage.TheVariants.{Title, Network, Root, Between, Within}
use Rattle.certifier.specs.declared.stage.Stop.{Stop}
use Rattle.certifier.specs.declared.stage.Stop.TheVariants.{Ended, Faulty, NoMemory}
use Rattle.certifier.specs.declared.stage.Way.{Way}

-- the flow of this edge has come so far
pub record IsUnderWay (net : Net) (edge : Edge) (way : Way) : Type 0 where
  pub line : way.line ≡ edge.line
  pub child : way.child ≡ edge.child
  pub up : way.up ≡ edge.up
  pub width : way.width ≡ min (2 ^ 64 - 1) edge.width
  pub values : way.sums.values ≡ length edge.flow
  pub sums : HasSums net edge.flow way.sums.sums

-- the edge is the next one of the tree, and its ends are routers
pub record IsNext (tree : KeptTree) (way : Way) : Type 0 where
  pub left : length tree.edges + 1 < tree.sheet.net.routers
  pub is_child : way.child ≡ next_in tree
  pub child : way.child < tree.sheet.net.routers
  pub up : way.up < tree.sheet.net.routers
  pub sums : length way.sums.sums ≡ tree.sheet.net.routers

-- all is ready for the line of this number
abbrev pub IsReady : ℕ → Stage → Type 0
IsReady number Title = Unit {0}
IsReady number (Network reading) = (reading.ended ≡ false) × (reading.progress.lines < number)
IsReady number (Root sheet) = Unit {0}
IsReady number (Between tree) = Unit {0}
IsReady number (Within tree way) = IsNext tree way × (way.sums.values < length tree.sheet.net.links)

-- this is what is kept where the lines have told that
abbrev pub Shows : told.Stage → Stage → Type 0
Shows told.Title Title = Unit {0}
Shows (told.Network draft) (Network reading) = reading.progress.draft ≡ Ok draft
Shows (told.Root sheet) (Root kept) = kept ≡ sheet
Shows (told.Between tree) (Between kept) = IsKept tree kept
Shows (told.Within tree edge) (Within kept way) = IsKept tree kept × IsUnderWay tree.sheet.net edge way
Shows _ _ = ⊥

-- the certificate goes on, and this is kept
abbrev pub GoesTo : Stage → told.Taken → Type 0
GoesTo kept (told.GoesOn stage) = Shows stage kept
GoesTo kept (told.Ends tree) = ⊥
GoesTo kept (told.Faulty fault) = ⊥

-- it stops for this reason; memory may be wanted at any line
abbrev pub StopsBy : Stop → told.Taken → Type 0
StopsBy NoMemory taken = Unit {0}
StopsBy (Ended kept) (told.Ends tree) = IsKept tree kept
StopsBy (Faulty fault) (told.Faulty first) = first ≡ record { number = fault.number; line = fault.line }
StopsBy _ _ = ⊥

-- the line was taken as it is told
abbrev pub Takes : Result Stage Stop → told.Taken → Type 0
Takes (Ok kept) taken = GoesTo kept taken
Takes (Err stop) taken = StopsBy stop taken

-- the line was taken in place, as it is told
abbrev pub TakesIn : Result (Unit {0}) Stop → Stage → told.Taken → Type 0
TakesIn (Ok unit) kept taken = GoesTo kept taken
TakesIn (Err stop) kept taken = StopsBy stop taken

-- a value was added to the flow of an edge: what the line comes to is what the longer flow comes to
abbrev pub Lengthens : Told → Result (Unit {0}) Stop → Way → told.Taken → Type 0
Lengthens so_far (Ok unit) way taken =
    (longer : Edge) × IsUnderWay so_far.sheet.net longer way × (taken ≡ told.take_flow so_far longer)
Lengthens so_far (Err stop) way taken = StopsBy stop taken

-- a fault of the network's text was told as one of the certificate, unless memory was wanted
pub record IsTextStop (number : ℕ) (fault : TextFault) (stop : Stop) : Type 0 where
  pub want : fault.kind ≡ Memory → stop ≡ NoMemory
  pub other : (fault.kind ≡ Memory → ⊥) → stop ≡ Faulty record { number = 31; line = number }

-- an edge behind its words: two names and a number
abbrev pub told_names : ℕ → Told → List ℕ → List ℕ → List ℕ → told.Taken
told_names number so_far child up width =
    told.or_faulty 32 number (number_of so_far.sheet.names child) (λ child.
    told.or_faulty 32 number (number_of so_far.sheet.names up) (λ up.
    told.take_routers number so_far width child up))
