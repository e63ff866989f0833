-- Laws of certificates: what an accepted one shows, and that what was decided stays.
use Rattle.std.specs.Prelude.{◌≡◌, ◌≢◌, ℕ, ◌<◌, ◌++◌, Bool, false, List}
use Rattle.cut_model.specs.Cuts.{IsLeastCut}
use Rattle.network_text.specs.Sheets.{IsSheet}
use Rattle.tree_state.specs.Paths.{IsLeastEdge, side_for}
use Rattle.tree_state.specs.Trees.{IsCutTree}
use Rattle.certifier.specs.Certificates.{Accepted, Undecided, verdict_on}
use Rattle.certifier.specs.Trees.{Told, up_in, width_in}

-- The names and the network that an accepted certificate tells are a sheet.
abbrev pub AcceptedHasSheet : Type 0
AcceptedHasSheet =
    (ended : Bool) (bytes : List ℕ) (told : Told) → verdict_on ended bytes ≡ Accepted told →
    IsSheet told.sheet.names told.sheet.net

-- The edges that it tells are a cut tree of that network.
abbrev pub AcceptedIsCutTree : Type 0
AcceptedIsCutTree =
    (ended : Bool) (bytes : List ℕ) (told : Told) → verdict_on ended bytes ≡ Accepted told →
    IsCutTree told.sheet.net told.root (up_in told) (width_in told)

-- Two routers that differ have a least edge on their path in that tree.
abbrev pub AcceptedHasLeastEdges : Type 0
AcceptedHasLeastEdges =
    (ended : Bool) (bytes : List ℕ) (told : Told) → verdict_on ended bytes ≡ Accepted told → (a b : ℕ) →
    a < told.sheet.net.routers → b < told.sheet.net.routers → a ≢ b →
    (c : ℕ) × IsLeastEdge told.sheet.net (up_in told) (width_in told) a b c

-- The side of the least edge that holds the first of them is a least cut of the two, and costs the edge's width.
abbrev pub AcceptedTellsLeastCuts : Type 0
AcceptedTellsLeastCuts =
    (ended : Bool) (bytes : List ℕ) (told : Told) → verdict_on ended bytes ≡ Accepted told → (a b c : ℕ) →
    a < told.sheet.net.routers → b < told.sheet.net.routers →
    IsLeastEdge told.sheet.net (up_in told) (width_in told) a b c →
    IsLeastCut told.sheet.net a b (side_for told.sheet.net.routers (up_in told) a c) (width_in told c)

-- What the lines of some bytes decide while the input goes on is decided by these bytes and any others behind them,
-- whether the input ends there or not.
abbrev pub VerdictStays : Type 0
VerdictStays =
    (ended : Bool) (front rest : List ℕ) → verdict_on false front ≢ Undecided →
    verdict_on ended (front ++ rest) ≡ verdict_on false front
