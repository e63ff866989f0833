-- A reply that is read from a record, told by its lines.
use Rattle.std.specs.Prelude.{◌≡◌, ℕ, ◌+◌, ◌<◌, List, [], Some}
use Rattle.std.specs.List.{concat}
use Rattle.std.specs.declared.option.Option.{Option}
use Rattle.certifier.specs.Blocks.{Carried, Fits, Layout, LayoutLine, layout_size}
use Rattle.cut_model.specs.Net.{IsInLimits}
use Rattle.path_minimum.specs.Paths.{IsOrderedPath}
use Rattle.query_lang.specs.Reports.{IsReport}
use Rattle.query_lang.specs.Requests.{IsOf}
use Rattle.query_lang.specs.declared.request.Request.{Request}
use Rattle.query_lang.specs.declared.request.Request.TheVariants.{Certificate, Witness}
use Rattle.reply_lines.specs.Tails.{Leads, Spot, lines_in}
use Rattle.session.specs.Answers.{certificate_reply, witness_reply}
use Rattle.session.specs.Points.{Work}
use Rattle.session.specs.declared.desk.Asked.{Asked}
use Rattle.tree_state.specs.Views.{HoldsCutTree, up_of}
use Rattle.tree_versions.specs.Records.{RecordView, record_at, tree_of}

-- Lines that are known.
abbrev pub known_layout : List (List ℕ) → Layout
known_layout lines = record { front = lines; word = []; children = []; back = [] }

-- The lines of a text that is a report are laid out.
pub record LaysReport (seen : RecordView) (version : ℕ) (request : Request) (layout : Layout) : Type 0 where
  pub text : List ℕ
  pub tells : IsReport version seen.sheet (tree_of seen) request text
  pub whole : concat (lines_in text) ≡ text
  pub is : layout ≡ known_layout (lines_in text)

-- Flows for the edges of the path of routers a and b are laid out.
pub record LaysWitness (seen : RecordView) (version a b : ℕ) (layout : Layout) : Type 0 where
  pub children : List ℕ
  pub path : IsOrderedPath seen.sheet.net (up_of (tree_of seen)) a b children
  pub is : layout ≡ witness_reply version seen.sheet.net children

-- What a record answers a request is laid out so.
abbrev pub LaysOut : RecordView → ℕ → Request → Layout → Type 0
LaysOut seen version (Witness a b) layout = LaysWitness seen version a b layout
LaysOut seen version Certificate layout = layout ≡ certificate_reply version seen.sheet
LaysOut seen version request layout = LaysReport seen version request layout

-- how many lines of a record are laid out
abbrev pub size_in : RecordView → Layout → ℕ
size_in seen layout = layout_size seen.sheet.net layout

-- this may be the line of a place of what is laid out of a record
abbrev pub LineIn : RecordView → Layout → ℕ → Carried → List ℕ → Carried → Type 0
LineIn seen layout place carry line carry2 =
    LayoutLine seen.sheet.names (tree_of seen) layout place carry line carry2

-- This may be the line of a place of a reply from the record of its version.
pub record ReportLine (records : List RecordView) (asked : Asked) (place : ℕ) (carry : Carried) (line : List ℕ)
    (carry2 : Carried) : Type 0 where
  pub seen : RecordView
  pub there : record_at records asked.version ≡ Some seen
  pub layout : Layout
  pub lays : LaysOut seen asked.version asked.request layout
  pub at : LineIn seen layout place carry line carry2

-- A record is sound: its network is within the limits, and its tree is a cut tree of it.
pub record IsSound (seen : RecordView) : Type 0 where
  pub limits : IsInLimits seen.sheet.net
  pub cuts : HoldsCutTree (tree_of seen)

-- The reply from a record has the places that are left behind the one that the work has come to, and what has to be
-- carried there is.
pub record IsReporting (records : List RecordView) (work : Work Asked Carried) : Type 0 where
  pub seen : RecordView
  pub there : record_at records work.reply.version ≡ Some seen
  pub sound : IsSound seen
  pub of : IsOf (Some seen.sheet) work.reply.request
  pub layout : Layout
  pub lays : LaysOut seen work.reply.version work.reply.request layout
  pub places : work.at.place + work.at.left ≡ size_in seen layout
  pub fits : Fits (tree_of seen) layout work.at.place work.at.carry

-- Where lines are left of a reply, its record is among these.
abbrev pub IsHeld : List RecordView → Work Asked Carried → Type 0
IsHeld records work = 0 < work.at.left → IsReporting records work

-- What is laid out has this spot, and what has to be carried there is.
pub record IsWithin (seen : RecordView) (layout : Layout) (at : Spot Carried) : Type 0 where
  pub places : at.place + at.left ≡ size_in seen layout
  pub fits : Fits (tree_of seen) layout at.place at.carry

-- A run leads from a spot of what is laid out to a later one. Where a line is left at the first, its line is in the
-- run.
pub record Fills (seen : RecordView) (layout : Layout) (from : Spot Carried) (run : List ℕ) (to : Spot Carried) : Type 0
  where
    pub leads : Leads Carried (LineIn seen layout) from run to
    pub within : IsWithin seen layout to
    pub fewer : 0 < from.left → to.left < from.left

-- A reply was laid out of a record, and the run leads in it from a place on, to which this was carried.
pub record Tells (seen : RecordView) (asked : Asked) (place : ℕ) (carry : Carried) (run : List ℕ) (to : Spot Carried) :
    Type 0 where
  pub layout : Layout
  pub lays : LaysOut seen asked.version asked.request layout
  pub fills : (left : ℕ) → place + left ≡ size_in seen layout
      → Fills seen layout (record { left = left; place = place; carry = carry }) run to

-- A reply was begun from a record that is there, which the request fits.
pub record Reported (seen : Option RecordView) (asked : Asked) (work : Work Asked Carried) : Type 0 where
  pub made : RecordView
  pub is : seen ≡ Some made
  pub sound : IsSound made
  pub of : IsOf (Some made.sheet) asked.request
  pub same : work.reply ≡ asked
  pub carry : Carried
  pub tells : Tells made asked 0 carry work.run work.at
