-- What a run of lines of a reply tells.
use Rattle.std.proofs.Common.{◌≡◌, ℕ, suc, ◌+◌, ◌-◌, ◌<◌, ◌≤◌, List, length, refl, sym, ap, arith}
use Rattle.std.proofs.Common.{codes, subst, IsTrue}
use Rattle.std.specs.List.{concat}
use Rattle.certifier.specs.Blocks.{Carried, Fits, Layout, LayoutLine, certificate_layout, headed, layout_size}
use Rattle.certifier.specs.Blocks.{witness_layout}
use Rattle.network_text.specs.Sheets.{SheetView}
use Rattle.path_minimum.specs.Paths.{IsOrderedPath}
use Rattle.query_lang.specs.Replies.{head_text}
use Rattle.query_lang.specs.Reports.{TellsReport}
use Rattle.query_lang.specs.Requests.{is_report}
use Rattle.query_lang.specs.declared.request.Request.{Request}
use Rattle.query_lang.specs.declared.request.Request.TheVariants.{Bye, Certificate, Cut, Load, Net, Nothing, Path}
use Rattle.query_lang.specs.declared.request.Request.TheVariants.{Run}
use Rattle.query_lang.specs.declared.request.Request.TheVariants.{Tree, Weakest, Witness}
use Rattle.reply_lines.proofs.Tailing.{line_leads}
use Rattle.reply_lines.specs.Tails.{KnownLine, Leads, Spot, spot}
use Rattle.session.proofs.Heading.{behind, carrying, fits_behind_head, fits_first, fits_inside, fits_known, head_line}
use Rattle.session.proofs.Heading.{leads_behind, leads_known}
use Rattle.session.specs.Answers.{certificate_reply, witness_reply}
use Rattle.session.specs.Reporting.{LaysOut, LaysReport, LineIn, Tells, known_layout, size_in}
use Rattle.session.specs.declared.desk.Asked.{Asked}
use Rattle.tree_state.specs.Views.{TreeView, up_of}
use Rattle.tree_versions.specs.Records.{RecordView, tree_of}

-- A report is laid out by its lines.
report_lays : (seen : RecordView) (version : ℕ) (request : Request) (layout : Layout) → IsTrue (is_report request)
    → LaysReport seen version request layout → LaysOut seen version request layout
report_lays seen version (Witness a b) layout report lays = absurd (cc)
report_lays seen version Certificate layout report lays = absurd (cc)
report_lays seen version (Cut a b) layout report lays = lays
report_lays seen version (Path a b) layout report lays = lays
report_lays seen version Tree layout report lays = lays
report_lays seen version Run layout report lays = lays
report_lays seen version Net layout report lays = lays
report_lays seen version Weakest layout report lays = lays
report_lays seen version Nothing layout report lays = lays
report_lays seen version Load layout report lays = lays
report_lays seen version Bye layout report lays = lays

-- what is laid out as known lines has as many
pub size_known : (seen : RecordView) (lines : List (List ℕ)) → size_in seen (known_layout lines) ≡ length lines
size_known seen lines = omega arith

-- A run leads in known lines from a place on.
pub record RunsKnown (lines : List (List ℕ)) (from : ℕ) (run : List ℕ) (to : Spot (Unit {0})) : Type 0 where
  pub leads : Leads (Unit {0}) (KnownLine (Unit {0}) lines) (spot (length lines) from tt) run to
  pub places : to.place + to.left ≡ length lines
  pub some : from < length lines → from < to.place
  pub within : from ≤ length lines

-- Lines are those of a report that is asked for.
pub record TellsLines (seen : RecordView) (asked : Asked) (lines : List (List ℕ)) : Type 0 where
  pub report : IsTrue (is_report asked.request)
  pub told : TellsReport asked.version seen.sheet (tree_of seen) asked.request lines

module _ (seen : RecordView) (asked : Asked) (lines : List (List ℕ)) (tells : TellsLines seen asked lines) where
  -- So they are laid out,
  lines_lay : LaysOut seen asked.version asked.request (known_layout lines)
  lines_lay = let told = tells.told in
      report_lays seen asked.version asked.request (known_layout lines) tells.report (record {
        text = told.text;
        tells = told.report;
        whole = subst (λ (ls : List (List ℕ)). concat ls ≡ told.text) told.lines_are told.whole;
        is = ap known_layout told.lines_are;
      })

  -- as many as there are places,
  pub lines_size : (from : ℕ) → ((layout : Layout) → LaysOut seen asked.version asked.request layout
      → from ≤ size_in seen layout) → from ≤ length lines
  lines_size from within = let low = within (known_layout lines) lines_lay in omega (arith, low, size_known seen lines)

  -- and a run of them tells the report, whatever is carried.
  pub report_tells : (from : ℕ) (run : List ℕ) (to : Spot (Unit {0})) → RunsKnown lines from run to → (carry : Carried)
      → Tells seen asked from carry run (carrying carry to)
  report_tells from run to runs carry = record {
    layout = known_layout lines;
    lays = lines_lay;
    fills = λ before all.
        let same : length lines - from ≡ before = omega (arith, all, size_known seen lines) in record {
          leads = leads_known seen lines (record { left = before; place = from; carry = tt }) to carry run
              (omega (arith, all, size_known seen lines))
              (subst (λ (n : ℕ). Leads (Unit {0}) (KnownLine (Unit {0}) lines)
              (record { left = n; place = from; carry = tt }) run to) same runs.leads);
          within = record {
            places = omega (arith, runs.places, size_known seen lines);
            fits = fits_known (tree_of seen) lines to.place carry;
          };
          fewer = λ more.
              let on = runs.some (omega (arith, more, all, size_known seen lines)) in
              omega (arith, on, runs.places, all, size_known seen lines);
        };
  }

-- A run leads in lines that are laid out from a place on.
pub record RunsOn (sheet : SheetView) (tree : TreeView) (layout : Layout) (from : ℕ) (carry : Carried) (run : List ℕ)
    (to : Spot Carried) : Type 0 where
  pub leads : Leads Carried (LayoutLine sheet.names tree layout) (spot (layout_size tree.net layout) from carry) run to
  pub places : to.place + to.left ≡ layout_size tree.net layout
  pub some : from < layout_size tree.net layout → from < to.place
  pub fits : Fits tree layout to.place to.carry

-- So it does where the network and the tree are those of a record.
pub runs_in : {sheet : SheetView} {tree : TreeView} {layout : Layout} {from : ℕ} {carry : Carried} {run : List ℕ}
    {to : Spot Carried} (seen : RecordView) → sheet ≡ seen.sheet → tree ≡ tree_of seen
    → RunsOn sheet tree layout from carry run to → RunsOn seen.sheet (tree_of seen) layout from carry run to
runs_in {sheet} {tree} {layout} {from} {carry} {run} {to} seen p q runs =
    subst (λ (s : SheetView). RunsOn s (tree_of seen) layout from carry run to) p
    (subst (λ (t : TreeView). RunsOn sheet t layout from carry run to) q runs)

-- Of a certificate the network says what is laid out, too.
pub certificate_runs_in : {sheet : SheetView} {tree : TreeView} {from : ℕ} {carry : Carried} {run : List ℕ}
    {to : Spot Carried} (seen : RecordView) → sheet ≡ seen.sheet → tree ≡ tree_of seen
    → RunsOn sheet tree (certificate_layout sheet) from carry run to
    → RunsOn seen.sheet (tree_of seen) (certificate_layout seen.sheet) from carry run to
certificate_runs_in {sheet} {tree} {from} {carry} {run} {to} seen p q runs =
    subst (λ (s : SheetView). RunsOn s (tree_of seen) (certificate_layout s) from carry run to) p
    (subst (λ (t : TreeView). RunsOn sheet t (certificate_layout sheet) from carry run to) q runs)

-- What is laid out for what was asked, as lines behind a first one.
pub record IsHeaded (seen : RecordView) (asked : Asked) : Type 0 where
  pub head : List ℕ
  pub layout : Layout
  pub lays : LaysOut seen asked.version asked.request (headed head layout)

-- The path that was found is one in the tree of a record.
pub found_path : {tree : TreeView} {children : List ℕ} (seen : RecordView) (a b : ℕ) → tree ≡ tree_of seen
    → (room : List ℕ) × IsOrderedPath tree.net (up_of tree) a b room × (children ≡ room)
    → IsOrderedPath seen.sheet.net (up_of (tree_of seen)) a b children
found_path seen a b same (room, path, is) =
    subst (λ (cs : List ℕ). IsOrderedPath seen.sheet.net (up_of (tree_of seen)) a b cs) (sym is)
    (subst (λ (t : TreeView). IsOrderedPath t.net (up_of t) a b room) same path)

-- The flows of a path are laid out for the request that asks for them.
abbrev pub witness_lays : (seen : RecordView) (asked : Asked) (a b : ℕ) (children : List ℕ)
    → asked.request ≡ Witness a b → IsOrderedPath seen.sheet.net (up_of (tree_of seen)) a b children
    → IsHeaded seen asked
witness_lays seen asked a b children is path =
    let layout = witness_reply asked.version seen.sheet.net children in
    let lays : LaysOut seen asked.version (Witness a b) layout =
    record { children = children; path = path; is = refl } in record {
      head = head_text asked.version (codes "WITNESS") (size_in seen (witness_layout children));
      layout = witness_layout children;
      lays = subst (λ (r : Request). LaysOut seen asked.version r layout) (sym is) lays;
    }

-- So is the certificate.
abbrev pub certificate_lays : (seen : RecordView) (asked : Asked) → asked.request ≡ Certificate → IsHeaded seen asked
certificate_lays seen asked is =
    let layout = certificate_reply asked.version seen.sheet in
    let lays : LaysOut seen asked.version Certificate layout = refl in record {
      head = head_text asked.version (codes "CERTIFICATE") (size_in seen (certificate_layout seen.sheet));
      layout = certificate_layout seen.sheet;
      lays = subst (λ (r : Request). LaysOut seen asked.version r layout) (sym is) lays;
    }

-- A run is the first line alone, behind which all other lines are left.
pub record RunsHead (seen : RecordView) (asked : Asked) (h : IsHeaded seen asked) (run : List ℕ) (to : Spot Carried) :
    Type 0 where
  pub is : run ≡ h.head
  pub all : to.left ≡ size_in seen h.layout
  pub next : to.place ≡ 1

module _ (seen : RecordView) (asked : Asked) (h : IsHeaded seen asked) where
  -- there is one line more
  size_headed : size_in seen (headed h.head h.layout) ≡ size_in seen h.layout + 1
  size_headed = omega arith

  -- the first line alone tells the reply from its beginning
  pub head_tells : (from : ℕ) (run : List ℕ) (to : Spot Carried) → from ≡ 0 → RunsHead seen asked h run to
      → Tells seen asked from to.carry run to
  head_tells from run to first runs = record {
    layout = headed h.head h.layout;
    lays = h.lays;
    fills = λ before sum.
        let more : before ≡ suc to.left = omega (arith, sum, size_headed, runs.all, first) in record {
          leads = rw (first, runs.is, runs.next, more)
              (line_leads Carried (LineIn seen (headed h.head h.layout)) to.left 0 to.carry to.carry h.head
              (head_line seen h.head h.layout to.carry));
          within = record {
            places = omega (arith, runs.next, runs.all, size_headed);
            fits = rw runs.next (fits_behind_head seen h.head h.layout 0 to.carry
                (fits_first (tree_of seen) h.layout to.carry));
          };
          fewer = λ some. omega (arith, more);
        };
  }

  -- what has to be carried to a place behind the first line
  pub fits_of : (from : ℕ) (carry : Carried) → 0 < from → ((other : Layout)
      → LaysOut seen asked.version asked.request other → Fits (tree_of seen) other from carry)
      → Fits (tree_of seen) h.layout (from - 1) carry
  fits_of from carry later fits =
      let next : from ≡ (from - 1) + 1 = omega (arith, later) in
      fits_inside seen h.head h.layout (from - 1) carry
      (subst (λ (n : ℕ). Fits (tree_of seen) (headed h.head h.layout) n carry) next
      (fits (headed h.head h.layout) h.lays))

  -- such a place is within the lines behind
  pub within_of : (from : ℕ) → 0 < from → ((other : Layout)
      → LaysOut seen asked.version asked.request other → from ≤ size_in seen other) → from - 1 ≤ size_in seen h.layout
  within_of from later within =
      let low = within (headed h.head h.layout) h.lays in omega (arith, low, size_headed, later)

  -- the lines behind the first one tell the reply from a place behind it
  pub behind_tells : (from : ℕ) (carry : Carried) (run : List ℕ) (to : Spot Carried)
      → (0 < from) × RunsOn seen.sheet (tree_of seen) h.layout (from - 1) carry run to
      → Tells seen asked from carry run (behind to)
  behind_tells from carry run to on = let runs = on.1 in record {
    layout = headed h.head h.layout;
    lays = h.lays;
    fills = λ before sum.
        let next : (from - 1) + 1 ≡ from = omega (arith, on.0) in
        let same : size_in seen h.layout - (from - 1) ≡ before = omega (arith, sum, size_headed, on.0) in record {
          leads = subst (λ (n : ℕ). Leads Carried (LineIn seen (headed h.head h.layout))
              (record { left = before; place = n; carry = carry }) run (behind to)) next
              (leads_behind seen h.head h.layout (record { left = before; place = from - 1; carry = carry }) to run
              (subst (λ (n : ℕ). Leads Carried (LineIn seen h.layout)
              (record { left = n; place = from - 1; carry = carry }) run to) same runs.leads));
          within = record {
            places = omega (arith, runs.places, size_headed);
            fits = fits_behind_head seen h.head h.layout to.place to.carry runs.fits;
          };
          fewer = λ more.
              let later = runs.some (omega (arith, more, sum, size_headed, on.0)) in
              omega (arith, later, runs.places, sum, size_headed, on.0);
        };
  }
