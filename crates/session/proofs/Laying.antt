-- One thing is laid out for a request, and all of it is the reply.
use Rattle.std.proofs.Common.{◌≡◌, ℕ, ◌+◌, ◌*◌, List, length, refl, sym, ap, ◌∙◌, arith, subst, IsTrue}
use Rattle.std.specs.List.{concat}
use Rattle.certifier.specs.Blocks.{IsLaidOut, Layout}
use Rattle.path_minimum.proofs.OnePath.{path-only}
use Rattle.query_lang.proofs.OneReport.{report_once}
use Rattle.query_lang.specs.Requests.{needs_record}
use Rattle.query_lang.specs.declared.request.Request.{Request}
use Rattle.query_lang.specs.declared.request.Request.TheVariants.{Bye, Certificate, Cut, Load, Net, Nothing, Path}
use Rattle.query_lang.specs.declared.request.Request.TheVariants.{Run}
use Rattle.query_lang.specs.declared.request.Request.TheVariants.{Tree, Weakest, Witness}
use Rattle.reply_lines.proofs.Known.{known_only}
use Rattle.reply_lines.specs.Tails.{lines_in}
use Rattle.session.proofs.Heading.{known_tail_of}
use Rattle.session.specs.Answers.{AnswersFrom, witness_reply}
use Rattle.session.specs.Reporting.{LaysOut, LaysReport, LaysWitness, known_layout}
use Rattle.tree_state.specs.Views.{up_of}
use Rattle.tree_versions.specs.Records.{RecordView, tree_of}

module _ (seen : RecordView) (version : ℕ) where
  -- A report is laid out as one thing,
  report_lays_once : (request : Request) (layout other : Layout) → LaysReport seen version request layout
      → LaysReport seen version request other → layout ≡ other
  report_lays_once request layout other p q =
      p.is
      ∙ ap (λ (t : List ℕ). known_layout (lines_in t))
      (report_once version seen.sheet (tree_of seen) request p.text q.text p.tells q.tells)
      ∙ sym q.is

  -- and so are the flows of a path.
  witness_lays_once : (a b : ℕ) (layout other : Layout) → LaysWitness seen version a b layout
      → LaysWitness seen version a b other → layout ≡ other
  witness_lays_once a b layout other p q =
      p.is
      ∙ ap (witness_reply version seen.sheet.net)
      (path-only seen.sheet.net (up_of (tree_of seen)) a b p.children q.children p.path q.path)
      ∙ sym q.is

  -- So is each reply.
  pub lays_once : (request : Request) (layout other : Layout) → LaysOut seen version request layout
      → LaysOut seen version request other → layout ≡ other
  lays_once (Witness a b) layout other p q = witness_lays_once a b layout other p q
  lays_once Certificate layout other p q = p ∙ sym q
  lays_once (Cut a b) layout other p q = report_lays_once (Cut a b) layout other p q
  lays_once (Path a b) layout other p q = report_lays_once (Path a b) layout other p q
  lays_once Tree layout other p q = report_lays_once Tree layout other p q
  lays_once Run layout other p q = report_lays_once Run layout other p q
  lays_once Net layout other p q = report_lays_once Net layout other p q
  lays_once Weakest layout other p q = report_lays_once Weakest layout other p q
  lays_once Nothing layout other p q = report_lays_once Nothing layout other p q
  lays_once Load layout other p q = report_lays_once Load layout other p q
  lays_once Bye layout other p q = report_lays_once Bye layout other p q

  -- A request for which something is laid out needs a record.
  pub lays_needs : (request : Request) (layout : Layout) → LaysOut seen version request layout
      → IsTrue (needs_record request)
  lays_needs Nothing layout p = absurd p.tells
  lays_needs Load layout p = absurd p.tells
  lays_needs Bye layout p = absurd p.tells
  lays_needs (Witness a b) layout p = refl
  lays_needs Certificate layout p = refl
  lays_needs (Cut a b) layout p = refl
  lays_needs (Path a b) layout p = refl
  lays_needs Tree layout p = refl
  lays_needs Run layout p = refl
  lays_needs Net layout p = refl
  lays_needs Weakest layout p = refl

  -- All lines that are known are their text,
  known_text : (lines : List (List ℕ)) (text : List ℕ)
      → IsLaidOut seen.sheet.names (tree_of seen) (known_layout lines) text → text ≡ concat lines
  known_text lines text laid =
      let all : length lines + 0 * (length seen.sheet.net.links + 1) + 0 ≡ length lines = omega arith in
      known_only (Unit {0}) lines (length lines + 0 * (length seen.sheet.net.links + 1) + 0) 0 tt text
      (omega (arith, all))
      (known_tail_of seen lines (length lines + 0 * (length seen.sheet.net.links + 1) + 0)
      0 laid.carry text laid.is)

  -- which is the report.
  report_answers : (request : Request) (layout : Layout) (text : List ℕ) (p : LaysReport seen version request layout)
      → IsLaidOut seen.sheet.names (tree_of seen) layout text → text ≡ p.text
  report_answers request layout text p laid =
      known_text (lines_in p.text) text
      (subst (λ (l : Layout). IsLaidOut seen.sheet.names (tree_of seen) l text) p.is laid) ∙ p.whole

  witness_answers : (a b : ℕ) (layout : Layout) (text : List ℕ) → LaysWitness seen version a b layout
      → IsLaidOut seen.sheet.names (tree_of seen) layout text → AnswersFrom seen version (Witness a b) text
  witness_answers a b layout text p laid = record {
    children = p.children;
    path = p.path;
    told = subst (λ (l : Layout). IsLaidOut seen.sheet.names (tree_of seen) l text) p.is laid;
  }

  -- All lines that are laid out are the reply.
  pub lays_answers : (request : Request) (layout : Layout) (text : List ℕ) → LaysOut seen version request layout
      → IsLaidOut seen.sheet.names (tree_of seen) layout text → AnswersFrom seen version request text
  lays_answers (Witness a b) layout text p laid = witness_answers a b layout text p laid
  lays_answers Certificate layout text p laid =
      subst (λ (l : Layout). IsLaidOut seen.sheet.names (tree_of seen) l text) p laid
  lays_answers (Cut a b) layout text p laid =
      subst (AnswersFrom seen version (Cut a b)) (sym (report_answers (Cut a b) layout text p laid)) p.tells
  lays_answers (Path a b) layout text p laid =
      subst (AnswersFrom seen version (Path a b)) (sym (report_answers (Path a b) layout text p laid)) p.tells
  lays_answers Tree layout text p laid =
      subst (AnswersFrom seen version Tree) (sym (report_answers Tree layout text p laid)) p.tells
  lays_answers Run layout text p laid =
      subst (AnswersFrom seen version Run) (sym (report_answers Run layout text p laid)) p.tells
  lays_answers Net layout text p laid =
      subst (AnswersFrom seen version Net) (sym (report_answers Net layout text p laid)) p.tells
  lays_answers Weakest layout text p laid =
      subst (AnswersFrom seen version Weakest) (sym (report_answers Weakest layout text p laid)) p.tells
  lays_answers Nothing layout text p laid = absurd p.tells
  lays_answers Load layout text p laid = absurd p.tells
  lays_answers Bye layout text p laid = absurd p.tells
