-- Which text answers the items of a session, over the records that its shelf has seen.
use Rattle.std.specs.Prelude.{◌≡◌, ℕ, ◌+◌, ◌<◌, ◌≤◌, ◌⊎◌, List, [], ◌∷◌, ◌++◌, Bool, true, length, Some, None}
use Rattle.std.specs.Prelude.{Result, Ok, Err, codes}
use Rattle.std.specs.declared.option.Option.{Option}
use Rattle.certifier.specs.Blocks.{IsLaidOut, Layout, certificate_layout, headed, layout_size, witness_layout}
use Rattle.cut_model.specs.Net.{Net}
use Rattle.network_text.specs.Faults.{kind_number}
use Rattle.network_text.specs.Sheets.{SheetView}
use Rattle.network_text.specs.Texts.{verdict_of}
use Rattle.network_text.specs.declared.fault.TextFault.{TextFault}
use Rattle.query_lang.specs.Requests.{request_of, fault_number}
use Rattle.path_minimum.specs.Paths.{IsOrderedPath}
use Rattle.query_lang.specs.Replies.{loaded_text, bye_text, head_text, refused_text}
use Rattle.query_lang.specs.Reports.{IsReport}
use Rattle.query_lang.specs.declared.request.Request.{Request}
use Rattle.query_lang.specs.declared.request.Request.TheVariants.{Certificate, Witness}
use Rattle.query_lang.specs.declared.request.RequestFault.{RequestFault}
use Rattle.text_forms.specs.Items.{Item, Ask, Load, Bye}
use Rattle.tree_state.specs.Views.{up_of}
use Rattle.tree_versions.specs.Records.{RecordView, record_at, tree_of}
use Rattle.tree_versions.specs.declared.shelf.TheConstants.{MOST_RECORDS}

-- these lines behind a first one that tells a word and how many they are
abbrev pub with_head : ℕ → List ℕ → Net → Layout → Layout
with_head version word net layout = headed (head_text version word (layout_size net layout)) layout

-- What lays out the reply to WITNESS: for each edge of the path of routers a and b, in the order of the path, a flow of
-- its width.
abbrev pub witness_reply : ℕ → Net → List ℕ → Layout
witness_reply version net children = with_head version (codes "WITNESS") net (witness_layout children)

-- What lays out the reply to CERTIFICATE: the certificate.
abbrev pub certificate_reply : ℕ → SheetView → Layout
certificate_reply version sheet = with_head version (codes "CERTIFICATE") sheet.net (certificate_layout sheet)

-- The reply to WITNESS tells the edges of the path of routers a and b in their order, with any flows.
pub record IsWitnessReply (seen : RecordView) (version a b : ℕ) (reply : List ℕ) : Type 0 where
  pub children : List ℕ
  pub path : IsOrderedPath seen.sheet.net (up_of (tree_of seen)) a b children
  pub told : IsLaidOut seen.sheet.names (tree_of seen) (witness_reply version seen.sheet.net children) reply

-- what a record answers a request
abbrev pub AnswersFrom : RecordView → ℕ → Request → List ℕ → Type 0
AnswersFrom seen version (Witness a b) reply = IsWitnessReply seen version a b reply
AnswersFrom seen version Certificate reply =
    IsLaidOut seen.sheet.names (tree_of seen) (certificate_reply version seen.sheet) reply
AnswersFrom seen version request reply = IsReport version seen.sheet (tree_of seen) request reply

-- the reply to a request line: its refusal, or what the record of the version answers
abbrev pub RepliesTo : Option RecordView → ℕ → Result Request RequestFault → List ℕ → Type 0
RepliesTo seen version (Err fault) reply = reply ≡ refused_text version (fault_number fault) None
RepliesTo (Some seen) version (Ok request) reply = AnswersFrom seen version request reply
RepliesTo None version (Ok request) reply = ⊥

-- the sheet of a record
abbrev pub sheet_in : Option RecordView → Option SheetView
sheet_in None = None
sheet_in (Some seen) = Some seen.sheet

-- a reply to a request line from the record of this version
abbrev pub IsReply : Option RecordView → ℕ → List ℕ → List ℕ → Type 0
IsReply seen version line reply = RepliesTo seen version (request_of (sheet_in seen) line) reply

-- the refusal of a text for its fault; want of memory may be told in its place
abbrev pub IsTextRefusal : ℕ → TextFault → List ℕ → Type 0
IsTextRefusal version fault reply =
    (reply ≡ refused_text version (kind_number fault.kind) (Some fault.line)) ⊎ (reply ≡ refused_text version 90 None)

-- The version of a reply that publishes nothing: none older than was seen, of a record that is there, and where
-- nobody else publishes the one that was seen.
pub record KeepsVersion (alone : Bool) (records : List RecordView) (seen next : ℕ) : Type 0 where
  pub later : seen ≤ next
  pub there : next ≤ length records
  pub same : alone ≡ true → next ≡ seen

-- A network was accepted: a later record has its sheet, where nobody else publishes the next.
pub record IsLoaded (alone : Bool) (records : List RecordView) (seen : ℕ) (sheet : SheetView) (reply : List ℕ)
    (next loads : ℕ) : Type 0 where
  pub later : seen < next
  pub made : RecordView
  pub place : record_at records next ≡ Some made
  pub shows : made.sheet ≡ sheet
  pub there : next ≤ length records
  pub text : reply ≡ loaded_text next sheet.net
  pub same : alone ≡ true → next ≡ seen + 1
  pub counted : loads ≡ 1

-- No record can be added to MOST_RECORDS.
pub record IsRefusedFull (alone : Bool) (records : List RecordView) (seen : ℕ) (reply : List ℕ) (next loads : ℕ) :
    Type 0 where
  pub full : length records ≡ MOST_RECORDS
  pub all : next ≡ MOST_RECORDS
  pub later : seen ≤ next
  pub text : reply ≡ refused_text MOST_RECORDS 20 None
  pub same : alone ≡ true → seen ≡ MOST_RECORDS
  pub counted : loads ≡ 0

-- Nothing was published, and the reply is as told.
pub record IsTold (alone : Bool) (records : List RecordView) (seen next loads : ℕ) (told_so : Type 0) : Type 0 where
  pub keeps : KeepsVersion alone records seen next
  pub told : told_so
  pub counted : loads ≡ 0

-- A network with this verdict was loaded: a faulty text is refused; a sheet is published, or refused where the shelf is
-- full; want of memory may come in place of each of these.
abbrev pub LoadStep : Bool → List RecordView → ℕ → Result SheetView TextFault → List ℕ → ℕ → ℕ → Type 0
LoadStep alone records seen (Err fault) reply next loads =
    IsTold alone records seen next loads (IsTextRefusal next fault reply)
LoadStep alone records seen (Ok sheet) reply next loads =
    IsLoaded alone records seen sheet reply next loads
    ⊎ IsRefusedFull alone records seen reply next loads
    ⊎ IsTold alone records seen next loads (reply ≡ refused_text next 90 None)

-- An item is answered by the reply, and leads from one version to the next.
abbrev pub Step : Bool → List RecordView → ℕ → Item → List ℕ → ℕ → ℕ → Type 0
Step alone records seen (Ask line) reply next loads =
    IsTold alone records seen next loads (IsReply (record_at records next) next line reply)
Step alone records seen (Load text whole) reply next loads =
    LoadStep alone records seen (verdict_of text whole) reply next loads
Step alone records seen Bye reply next loads = IsTold alone records seen next loads (reply ≡ bye_text next)

-- The text begins with the reply to an item, and P holds of the version after it, the rest of the text and the number
-- of accepted LOADs in it.
pub record Begins (alone : Bool) (records : List RecordView) (seen : ℕ) (item : Item) (text : List ℕ) (loads : ℕ)
    (P : ℕ → List ℕ → ℕ → Type 0) : Type 0 where
  pub reply : List ℕ
  pub rest : List ℕ
  pub next : ℕ
  pub loaded : ℕ
  pub others : ℕ
  pub step : Step alone records seen item reply next loaded
  pub joins : text ≡ reply ++ rest
  pub sum : loads ≡ loaded + others
  pub on : P next rest others

-- The text is the replies to the items, one after another, over these records, from one version to another, and so
-- many of them accept a network. Where nobody else publishes, each version is the one that the reply before it left.
abbrev pub Answers : Bool → List RecordView → ℕ → List Item → List ℕ → ℕ → ℕ → Type 0
Answers alone records seen [] text last loads = (text ≡ []) × (last ≡ seen) × (loads ≡ 0)
Answers alone records seen (item ∷ items) text last loads = Begins alone records seen item text loads
    (λ next rest others. Answers alone records next items rest last others)

-- The text answers the items over these records and no others: nobody else publishes, and each record that wasn't seen
-- before is one of the accepted LOADs, in order.
pub record Alone (records : List RecordView) (seen : ℕ) (items : List Item) (text : List ℕ) : Type 0 where
  pub loads : ℕ
  pub answers : Answers true records seen items text (length records) loads
