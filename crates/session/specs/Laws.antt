-- Laws of the turns of a session, and of its replies.
use Rattle.std.specs.Prelude.{◌≡◌, ℕ, ◌≤◌, ◌++◌, Bool, Contains, List, codes, false, length}
use Rattle.line_reader.specs.declared.reader.TheConstants.{MOST_BYTES}
use Rattle.path_minimum.specs.Paths.{IsOrderedPath}
use Rattle.query_lang.specs.Replies.{cut_text}
use Rattle.query_lang.specs.declared.request.Request.TheVariants.{Certificate, Cut, Witness}
use Rattle.session.specs.Answers.{AnswersFrom, witness_reply}
use Rattle.session.specs.Goings.{IsFresh}
use Rattle.session.specs.Points.{Point}
use Rattle.certifier.specs.Accepting.{AcceptsTree}
use Rattle.certifier.specs.Blocks.{Carried, IsLaidOut}
use Rattle.certifier.specs.Certificates.{verdict_on}
use Rattle.network_text.specs.Sheets.{IsSheet}
use Rattle.session.specs.Reporting.{IsHeld}
use Rattle.session.specs.Sessions.{EndsAs, moment}
use Rattle.session.specs.Shelved.{IsLook, Shelved}
use Rattle.session.specs.Turns.{Here, TurnGoes, point_at}
use Rattle.session.specs.declared.desk.Asked.{Asked}
use Rattle.session.specs.declared.session.SessionEnd.{SessionEnd}
use Rattle.session.specs.declared.session.Turn.{Turn}
use Rattle.session.specs.declared.session.Turn.TheVariants.{Ended, NotYet}
use Rattle.tree_state.specs.Views.{HoldsCutTree, up_of, width_of}
use Rattle.tree_versions.specs.Records.{RecordView, tree_of}
use Rattle.tree_versions.specs.declared.shelf.TheConstants.{MOST_RECORDS}

-- What a turn did that stopped, and then the next turn from where it stopped, is what one turn might have done.
abbrev pub TurnsJoin : Type 0
TurnsJoin =
    (turn : Turn) (alone : Bool) (from : Point Asked Carried) (mid here : Here)
    → (w : TurnGoes NotYet alone from mid) → TurnGoes turn alone (point_at mid w.open_text w.bytes) here
    → TurnGoes turn alone from here

-- A start at which nothing was done, and what is kept where turns from it have come to.
pub record IsBegun (from : Point Asked Carried) (here : Here) : Type 0 where
  pub fresh : IsFresh from
  pub few : length from.shelf.seen ≤ MOST_RECORDS
  pub most : here.kept.reader.taken ≤ MOST_BYTES
  pub held : IsHeld here.now.shelf.seen here.kept.work

-- What turns did from a fresh start until one ended is a session that ended so.
abbrev pub TurnsAreASession : Type 0
TurnsAreASession =
    (end : SessionEnd) (alone : Bool) (from : Point Asked Carried) (here : Here) → IsBegun from here
    → TurnGoes (Ended end) alone from here → EndsAs end alone (moment from.shelf from.wire) here.now

-- Where others publish on a list between two turns, what the turn before did is still what one turn might have done:
-- it saw what they published, and published nothing by that.
abbrev pub OthersMayPublish : Type 0
OthersMayPublish =
    (from : Point Asked Carried) (mid : Here) (shelf : Shelved) → TurnGoes NotYet false from mid
    → IsLook false mid.now.shelf shelf → IsHeld mid.now.shelf.seen mid.kept.work
    → TurnGoes NotYet false from (record mid { now = moment shelf mid.now.wire })

-- A reply to WITNESS tells flows for the edges of the path of routers a and b, none of which is less wide than the
-- value that a reply to CUT tells.
pub record TellsNoLess (seen : RecordView) (version a b : ℕ) (witness cut : List ℕ) : Type 0 where
  pub children : List ℕ
  pub path : IsOrderedPath seen.sheet.net (up_of (tree_of seen)) a b children
  pub told : IsLaidOut seen.sheet.names (tree_of seen) (witness_reply version seen.sheet.net children) witness
  pub value : ℕ
  pub side : List Bool
  pub cut_told : cut ≡ cut_text version (codes "CUT") value seen.sheet.names side
  pub no_less : (child : ℕ) → Contains children child → value ≤ width_of (tree_of seen) child

-- So does that for the two routers of a CUT.
abbrev pub WitnessIsNoLessThanCut : Type 0
WitnessIsNoLessThanCut =
    (seen : RecordView) (version a b : ℕ) (witness cut : List ℕ) → AnswersFrom seen version (Witness a b) witness
    → AnswersFrom seen version (Cut a b) cut → TellsNoLess seen version a b witness cut

-- A reply to CERTIFICATE is accepted with its first line, whatever stands behind it, and what is accepted is the tree
-- of its record. The record of each version on a shelf has such a sheet and such a tree.
abbrev pub CertificateIsAccepted : Type 0
CertificateIsAccepted =
    (seen : RecordView) (version : ℕ) (reply more : List ℕ) (ended : Bool) → version ≤ MOST_RECORDS
    → IsSheet seen.sheet.names seen.sheet.net → HoldsCutTree (tree_of seen) → AnswersFrom seen version Certificate reply
    → AcceptsTree seen.sheet (up_of (tree_of seen)) (width_of (tree_of seen)) (verdict_on ended (reply ++ more))
