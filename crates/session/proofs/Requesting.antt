-- What a request line gets between two items.
use Rattle.std.proofs.Common.{◌≡◌, ℕ, List, [], ◌∷◌, length, Bool, true, false, None, Some, refl, sym}
use Rattle.std.proofs.Common.{◌∙◌, arith, subst, Result, Ok, Err}
use Rattle.std.specs.declared.option.Option.{Option}
use Rattle.query_lang.specs.Replies.{bye_text, refused_text}
use Rattle.query_lang.specs.Requests.{fault_number, request_of}
use Rattle.query_lang.specs.declared.request.Request.{Request}
use Rattle.query_lang.specs.declared.request.Request.TheVariants.{Nothing, Load, Bye}
use Rattle.query_lang.specs.declared.request.RequestFault.{RequestFault}
use Rattle.query_lang.proofs.RequestKinds.{IsOther, answer_kind, other_asks}
use Rattle.session.specs.Answers.{IsReply, KeepsVersion, RepliesTo, Step, sheet_in}
use Rattle.session.specs.Modes.{next_text, gives, Gives}
use Rattle.session.specs.Points.{IsIdle, Work}
use Rattle.certifier.specs.Blocks.{Carried}
use Rattle.session.specs.Reporting.{Reported}
use Rattle.session.specs.Shelved.{IsLook, Shelved}
use Rattle.session.specs.Taking.{HasOpen, IsByeTaken, IsTaken, Owing}
use Rattle.session.specs.declared.desk.Asked.{Asked}
use Rattle.session.specs.declared.intake.Intake.{Intake}
use Rattle.session.proofs.Answering.{Gives-none, Gives-one, look_leads}
use Rattle.session.proofs.Laying.{lays_needs}
use Rattle.session.proofs.Loading.{idle_owing, run_owing}
use Rattle.session.proofs.Telling.{begun_held, begun_tells}
use Rattle.text_forms.specs.Items.{Item, Ask, Bye as ByeItem}
use Rattle.text_forms.specs.Words.{is_passed}
use Rattle.tree_versions.specs.Records.{RecordView, record_at}

-- the last record that is seen
abbrev pub last_of : Shelved → Option RecordView
last_of now = record_at now.seen (length now.seen)

-- what the last record makes of a line
abbrev pub asks : Shelved → List ℕ → Result Request RequestFault
asks now line = request_of (sheet_in (last_of now)) line

module _ {alone : Bool} {old new : Shelved} (look : IsLook alone old new) where
  -- an item that is answered from what a look saw
  told_gives : (item : Item) (reply : List ℕ) → ((seen : ℕ) → KeepsVersion alone new.seen seen (length new.seen)
      → Step alone new.seen seen item reply (length new.seen) 0) → Gives alone old (item ∷ []) reply new
  told_gives item reply step =
      Gives-one alone old new item reply 0 (omega (arith, look.kept))
      (look_leads alone old new look (λ seen next. Step alone new.seen seen item reply next 0) step)

  -- a request line that is replied to
  ask_gives : (line reply : List ℕ) → IsReply (last_of new) (length new.seen) line reply
      → Gives alone old (Ask line ∷ []) reply new
  ask_gives line reply told =
      told_gives (Ask line) reply (λ seen keeps. record { keeps = keeps; told = told; counted = refl })

  -- a line that asks for something of a record, or is refused, was taken
  ask_taken : (line : List ℕ) {intake : Intake} {work : Work Asked Carried} → IsOther (asks new line)
      → HasOpen intake None → Owing alone old new (Ask line ∷ []) work → IsTaken alone old new None intake line work
  ask_taken line {intake} {work} other left_open owing =
      let kind = other_asks (sheet_in (last_of new)) line (asks new line) refl other in
      let gives_is : gives None line ≡ Ask line ∷ [] = rw (kind.0, kind.1) refl in
      let next_is : next_text None line ≡ None = rw (kind.0, kind.1) refl in record {
        quiet = λ none passed load. kind.2;
        owing = subst (λ (items : List Item). Owing alone old new items work) (sym gives_is) owing;
        left_open = subst (λ (text : Option (List (List ℕ))). HasOpen intake text) (sym next_is) left_open;
      }

  -- a line that is refused was taken
  pub refused_taken : (line : List ℕ) {intake : Intake} {work : Work Asked Carried} (fault : RequestFault)
      → HasOpen intake None → Err fault ≡ asks new line → work.at.left ≡ 0
      → work.run ≡ refused_text (length new.seen) (fault_number fault) None
      → IsTaken alone old new None intake line work
  refused_taken line {intake} {work} fault left_open is none text =
      ask_taken line (subst IsOther is tt) left_open
      (run_owing work none (ask_gives line work.run
      (subst (λ (a : Result Request RequestFault). RepliesTo (last_of new) (length new.seen) a work.run) is text)))

  -- a line that is answered from a record was taken
  pub reported_taken : (line : List ℕ) {intake : Intake} {work : Work Asked Carried} (request : Request)
      → HasOpen intake None → Ok request ≡ asks new line
      → Reported (last_of new) (record { version = length new.seen; request = request }) work
      → IsTaken alone old new None intake line work
  reported_taken line {intake} {work} request left_open is begun =
      ask_taken line (subst IsOther is
      (lays_needs begun.made (length new.seen) request begun.tells.layout begun.tells.lays))
      left_open (record {
        grows = look.looks.grows;
        gives = λ text owed. ask_gives line text
            (subst (λ (a : Result Request RequestFault). RepliesTo (last_of new) (length new.seen) a text) is
            (begun_tells new.seen _ work begun text owed));
        held = begun_held new.seen _ work begun;
      })

  -- a line that is passed over gets no reply
  pub passed_taken : (line : List ℕ) {intake : Intake} {work : Work Asked Carried} → IsIdle work
      → HasOpen intake None → Ok Nothing ≡ asks new line → IsTaken alone old new None intake line work
  passed_taken line {intake} {work} idle left_open is =
      let passed : is_passed line ≡ true = answer_kind (sheet_in (last_of new)) line (Ok Nothing) (sym is) in
      let gives_is : gives None line ≡ [] = rw passed refl in
      let next_is : next_text None line ≡ None = rw passed refl in record {
        quiet = λ none unpassed load. absurd (let e : true ≡ false = sym passed ∙ unpassed in cc);
        owing = subst (λ (items : List Item). Owing alone old new items work) (sym gives_is)
            (idle_owing idle (Gives-none alone old new look));
        left_open = subst (λ (text : Option (List (List ℕ))). HasOpen intake text) (sym next_is) left_open;
      }

  -- neither does one that begins a text
  pub load_taken : (line : List ℕ) {intake : Intake} {work : Work Asked Carried} → IsIdle work
      → HasOpen intake (Some []) → Ok Load ≡ asks new line → IsTaken alone old new None intake line work
  load_taken line {intake} {work} idle left_open is =
      let k = answer_kind (sheet_in (last_of new)) line (Ok Load) (sym is) in
      let gives_is : gives None line ≡ [] = rw (k.0, k.1) refl in
      let next_is : next_text None line ≡ Some [] = rw (k.0, k.1) refl in record {
        quiet = λ none unpassed unload. absurd (let e : true ≡ false = sym k.1 ∙ unload in cc);
        owing = subst (λ (items : List Item). Owing alone old new items work) (sym gives_is)
            (idle_owing idle (Gives-none alone old new look));
        left_open = subst (λ (text : Option (List (List ℕ))). HasOpen intake text) (sym next_is) left_open;
      }

  -- a BYE is answered
  pub bye_taken : (line : List ℕ) {work : Work Asked Carried} → Ok Bye ≡ asks new line → work.at.left ≡ 0
      → work.run ≡ bye_text (length new.seen) → IsByeTaken alone old new None line work
  bye_taken line {work} is none text =
      let k = answer_kind (sheet_in (last_of new)) line (Ok Bye) (sym is) in record {
        between = refl;
        bye = record { passed = k.0; load = k.1; bye = k.2 };
        owing = run_owing work none (told_gives ByeItem work.run
            (λ seen keeps. record { keeps = keeps; told = text; counted = refl }));
      }
