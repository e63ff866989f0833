-- What a request line asks for, by what it is among the items of a session.
use Rattle.std.proofs.Common.{◌≡◌, ◌↔◌, ℕ, List, [], ◌∷◌, Bool, true, false, None, Some, Result, Ok, Err, refl, ap}
use Rattle.std.proofs.Common.{IsTrue, ◌∙◌, subst, codes, if◌then◌else◌, ◌==◌, ◌&&◌, nat_lt, not}
use Rattle.std.proofs.lemmas.Bool.{false≢true, true≢false}
use Rattle.std.proofs.lemmas.Slice.Eq.{bytes_eq-Decides}
use Rattle.std.specs.Str.{bytes_eq}
use Rattle.std.specs.declared.option.Option.{Option}
use Rattle.cut_model.specs.Terminals.{terminal_count}
use Rattle.network_text.specs.Sheets.{SheetView}
use Rattle.tree_state.specs.Views.{TreeView}
use Rattle.query_lang.specs.Reports.{IsReport}
use Rattle.query_lang.specs.Requests.{about, ends_of, is_report, needs_record, of_one_word, request_of}
use Rattle.query_lang.specs.Requests.{weakest_of, words_ask}
use Rattle.query_lang.specs.declared.request.Request.{Request}
use Rattle.query_lang.specs.declared.request.Request.TheVariants.{Nothing, Load, Cut, Path, Tree, Run, Net}
use Rattle.query_lang.specs.declared.request.Request.TheVariants.{Weakest, Witness, Certificate, Bye}
use Rattle.query_lang.specs.declared.request.RequestFault.{RequestFault}
use Rattle.query_lang.specs.declared.request.RequestFault.TheVariants.{UnknownWord, LineTooLong}
use Rattle.query_lang.specs.declared.request.RequestFault.TheVariants.{OneRouter}
use Rattle.text_forms.specs.Lines.{is_long}
use Rattle.text_forms.specs.Words.{is_passed, is_load, is_bye, is_lone, is_remark, line_words}

-- A line that is passed over asks for nothing, one that begins a text or ends the session asks for just that, and
-- a line with another answer is none of the three.
abbrev pub IsKind : Result Request RequestFault → Bool → Bool → Bool → Type 0
IsKind (Ok Nothing) passed load bye = passed ≡ true
IsKind (Ok Load) passed load bye = (passed ≡ false) × (load ≡ true)
IsKind (Ok Bye) passed load bye = (passed ≡ false) × (load ≡ false) × (bye ≡ true)
IsKind answer passed load bye = (passed ≡ false) × (load ≡ false) × (bye ≡ false)

-- A request that needs a record, or a fault.
abbrev pub IsOther : Result Request RequestFault → Type 0
IsOther (Ok request) = IsTrue (needs_record request)
IsOther (Err fault) = Unit {0}

-- Such an answer is right for a line that is none of the three.
pub kind_of_other : (answer : Result Request RequestFault) (load bye : Bool) → IsOther answer → load ≡ false
    → bye ≡ false → IsKind answer false load bye
kind_of_other (Ok Nothing) load bye other no_load no_bye = absurd (false≢true other)
kind_of_other (Ok Load) load bye other no_load no_bye = absurd (false≢true other)
kind_of_other (Ok Bye) load bye other no_load no_bye = absurd (false≢true other)
kind_of_other answer load bye other no_load no_bye = (refl, no_load, no_bye)

-- A request about two routers, or the fault for which there are no two, is such an answer.
other_about : (request : ℕ → ℕ → Request) (ends : Result (ℕ × ℕ) RequestFault)
    → ((a b : ℕ) → IsOther (Ok (request a b))) → IsOther (about request ends)
other_about request (Ok ends) other = other ends.0 ends.1
other_about request (Err fault) other = tt

-- So is what `WEAKEST` gives, whatever stands behind it.
other_weakest : (sheet : Option SheetView) (words : List (List ℕ)) → IsOther (weakest_of sheet words)
other_weakest None [] = tt
other_weakest None (word ∷ words) = tt
other_weakest (Some sheet) (word ∷ words) = tt
other_weakest (Some sheet) [] = chosen (nat_lt (terminal_count sheet.net) 2)
  where
    chosen : (few : Bool) → IsOther (if few then Err OneRouter else Ok Weakest)
    chosen true = tt
    chosen false = refl

-- So does a word that needs a record, whatever stands behind it.
other_of_one_word : (request : Request) (sheet : Option SheetView) (words : List (List ℕ))
    → IsTrue (needs_record request) → IsOther (of_one_word request sheet words)
other_of_one_word request None [] needs = rw needs tt
other_of_one_word request None (word ∷ words) needs = tt
other_of_one_word request (Some sheet) [] needs = needs
other_of_one_word request (Some sheet) (word ∷ words) needs = tt

-- A word that is the one isn't the other.
not_both : (word one other : List ℕ) → bytes_eq one other ≡ false → bytes_eq word one ≡ true
    → bytes_eq word other ≡ false
not_both word one other differ is = ap (λ text. bytes_eq text other) ((bytes_eq-Decides word one).0 is) ∙ differ

-- The word that begins a text does so alone, and else the words behind it in the order of the tests tell.
kind_load : (load : Bool) (sheet : Option SheetView) (rest : Result Request RequestFault) (bye : Bool)
    → IsKind rest false false bye → IsKind (if load then of_one_word Load sheet [] else rest) false load bye
kind_load true None rest bye kind = (refl, refl)
kind_load true (Some sheet) rest bye kind = (refl, refl)
kind_load false sheet rest bye kind = kind

-- A word that isn't the one that ends the session asks something of a record, or else the later tests tell.
kind_past : (is : Bool) (answer rest : Result Request RequestFault) (bye : Bool) → (is ≡ true → bye ≡ false)
    → IsOther answer → IsKind rest false false bye → IsKind (if is then answer else rest) false false bye
kind_past true answer rest bye no_bye other kind = kind_of_other answer false bye other refl (no_bye refl)
kind_past false answer rest bye no_bye other kind = kind

-- The last test is for the word that ends the session.
kind_bye : (bye : Bool) (sheet : Option SheetView)
    → IsKind (if bye then of_one_word Bye sheet [] else Err UnknownWord) false false bye
kind_bye true None = (refl, refl, refl)
kind_bye true (Some sheet) = (refl, refl, refl)
kind_bye false sheet = (refl, refl, refl)

-- One word alone begins a text, or ends the session, or does neither.
kind_of_one : (sheet : Option SheetView) (word : List ℕ)
    → IsKind (words_ask sheet (word ∷ [])) false (bytes_eq word (codes "LOAD")) (bytes_eq word (codes "BYE"))
kind_of_one sheet word =
    let bye = bytes_eq word (codes "BYE") in
    kind_load (bytes_eq word (codes "LOAD")) sheet _ bye
    (kind_past (bytes_eq word (codes "CUT")) _ _ bye (not_both word (codes "CUT") (codes "BYE") refl) tt
    (kind_past (bytes_eq word (codes "PATH")) _ _ bye (not_both word (codes "PATH") (codes "BYE") refl) tt
    (kind_past (bytes_eq word (codes "TREE")) _ _ bye (not_both word (codes "TREE") (codes "BYE") refl)
    (other_of_one_word Tree sheet [] refl)
    (kind_past (bytes_eq word (codes "RUN")) _ _ bye (not_both word (codes "RUN") (codes "BYE") refl)
    (other_of_one_word Run sheet [] refl)
    (kind_past (bytes_eq word (codes "NET")) _ _ bye (not_both word (codes "NET") (codes "BYE") refl)
    (other_of_one_word Net sheet [] refl)
    (kind_past (bytes_eq word (codes "WEAKEST")) _ _ bye (not_both word (codes "WEAKEST") (codes "BYE") refl)
    (other_weakest sheet [])
    (kind_past (bytes_eq word (codes "WITNESS")) _ _ bye (not_both word (codes "WITNESS") (codes "BYE") refl) tt
    (kind_past (bytes_eq word (codes "CERTIFICATE")) _ _ bye (not_both word (codes "CERTIFICATE") (codes "BYE") refl)
    (other_of_one_word Certificate sheet [] refl) (kind_bye bye sheet)))))))))

-- Several words do neither.
kind_of_more : (sheet : Option SheetView) (word second : List ℕ) (words : List (List ℕ))
    → IsKind (words_ask sheet (word ∷ second ∷ words)) false false false
kind_of_more sheet word second words =
    let ends = ends_of sheet (second ∷ words) in
    neither (bytes_eq word (codes "LOAD")) _ _ tt
    (neither (bytes_eq word (codes "CUT")) _ _ (other_about Cut ends (λ a b. refl))
    (neither (bytes_eq word (codes "PATH")) _ _ (other_about Path ends (λ a b. refl))
    (neither (bytes_eq word (codes "TREE")) _ _ tt
    (neither (bytes_eq word (codes "RUN")) _ _ tt
    (neither (bytes_eq word (codes "NET")) _ _ tt
    (neither (bytes_eq word (codes "WEAKEST")) _ _ (other_weakest sheet (second ∷ words))
    (neither (bytes_eq word (codes "WITNESS")) _ _ (other_about Witness ends (λ a b. refl))
    (neither (bytes_eq word (codes "CERTIFICATE")) _ _ tt
    (neither (bytes_eq word (codes "BYE")) _ _ tt (refl, refl, refl))))))))))
  where
    neither : (is : Bool) (answer rest : Result Request RequestFault) → IsOther answer
        → IsKind rest false false false → IsKind (if is then answer else rest) false false false
    neither is answer rest = kind_past is answer rest false (λ whatever. refl)

-- Words that aren't those of a remark.
kind_of_asked : (sheet : Option SheetView) (word : List ℕ) (words : List (List ℕ))
    → IsKind (words_ask sheet (word ∷ words)) false (is_lone (codes "LOAD") (word ∷ words))
    (is_lone (codes "BYE") (word ∷ words))
kind_of_asked sheet word [] = kind_of_one sheet word
kind_of_asked sheet word (second ∷ words) = kind_of_more sheet word second words

-- The words of a line that isn't too long.
kind_of_words : (sheet : Option SheetView) (words : List (List ℕ))
    → IsKind (if is_remark words then Ok Nothing else words_ask sheet words) (is_remark words)
    (is_lone (codes "LOAD") words) (is_lone (codes "BYE") words)
kind_of_words sheet [] = refl
kind_of_words sheet ([] ∷ words) = kind_of_asked sheet [] words
kind_of_words sheet ((b ∷ bytes) ∷ words) = chosen (b == 35)
  where
    chosen : (remark : Bool)
        → IsKind (if remark then Ok Nothing else words_ask sheet ((b ∷ bytes) ∷ words)) remark
        (is_lone (codes "LOAD") ((b ∷ bytes) ∷ words)) (is_lone (codes "BYE") ((b ∷ bytes) ∷ words))
    chosen true = refl
    chosen false = kind_of_asked sheet (b ∷ bytes) words

-- What a line asks for is told by whether it is passed over, and else begins a text, and else ends the session.
pub request_kind : (sheet : Option SheetView) (line : List ℕ)
    → IsKind (request_of sheet line) (is_passed line) (is_load line) (is_bye line)
request_kind sheet line = chosen (is_long line)
  where
    chosen : (long : Bool)
        → IsKind (if long then Err LineTooLong else if is_remark (line_words line) then Ok Nothing
        else words_ask sheet (line_words line)) (not long && is_remark (line_words line))
        (not long && is_lone (codes "LOAD") (line_words line)) (not long && is_lone (codes "BYE") (line_words line))
    chosen true = (refl, refl, refl)
    chosen false = kind_of_words sheet (line_words line)

-- For a line that is passed over only `Nothing` is right.
only_nothing : (answer : Result Request RequestFault) (load bye : Bool) → IsKind answer true load bye
    → answer ≡ Ok Nothing
only_nothing (Ok Nothing) load bye kind = refl
only_nothing answer load bye kind = absurd (true≢false kind.0)

-- For a line that begins a text only that answer is right.
only_load : (answer : Result Request RequestFault) (bye : Bool) → IsKind answer false true bye → answer ≡ Ok Load
only_load (Ok Nothing) bye kind = absurd (false≢true kind)
only_load (Ok Load) bye kind = refl
only_load answer bye kind = absurd (true≢false kind.1)

-- For a line that ends the session only that answer is right.
only_bye : (answer : Result Request RequestFault) → IsKind answer false false true → answer ≡ Ok Bye
only_bye (Ok Nothing) kind = absurd (false≢true kind)
only_bye (Ok Load) kind = absurd (false≢true kind.1)
only_bye (Ok Bye) kind = refl
only_bye answer kind = absurd (true≢false kind.2)

-- For a line that is none of these only an answer for a record or a fault is right.
only_other : (answer : Result Request RequestFault) → IsKind answer false false false → IsOther answer
only_other (Ok Nothing) kind = absurd (false≢true kind)
only_other (Ok Load) kind = absurd (false≢true kind.1)
only_other (Ok Bye) kind = absurd (false≢true kind.2)
only_other (Ok request) kind = refl
only_other (Err fault) kind = tt

-- An answer to a line has the line's kind.
pub answer_kind : (sheet : Option SheetView) (line : List ℕ) (answer : Result Request RequestFault)
    → request_of sheet line ≡ answer → IsKind answer (is_passed line) (is_load line) (is_bye line)
answer_kind sheet line answer is =
    subst (λ found. IsKind found (is_passed line) (is_load line) (is_bye line)) is (request_kind sheet line)

-- Exactly an empty line or a remark asks for nothing.
pub asks_nothing : (sheet : Option SheetView) (line : List ℕ)
    → (request_of sheet line ≡ Ok Nothing) ↔ (is_passed line ≡ true)
asks_nothing sheet line =
    let kind = request_kind sheet line in (
      λ is. answer_kind sheet line (Ok Nothing) is,
      λ passed. only_nothing (request_of sheet line) (is_load line) (is_bye line) (rw passed at kind),
    )

-- Exactly the line that begins a network text asks for that.
pub asks_load : (sheet : Option SheetView) (line : List ℕ)
    → (request_of sheet line ≡ Ok Load) ↔ ((is_passed line ≡ false) × (is_load line ≡ true))
asks_load sheet line =
    let kind = request_kind sheet line in (
      λ is. answer_kind sheet line (Ok Load) is,
      λ load. only_load (request_of sheet line) (is_bye line) (rw (load.0, load.1) at kind),
    )

-- Exactly the line that ends a session asks for that.
pub asks_bye : (sheet : Option SheetView) (line : List ℕ)
    → (request_of sheet line ≡ Ok Bye) ↔ ((is_passed line ≡ false) × (is_load line ≡ false) × (is_bye line ≡ true))
asks_bye sheet line =
    let kind = request_kind sheet line in (
      λ is. answer_kind sheet line (Ok Bye) is,
      λ bye. only_bye (request_of sheet line) (rw (bye.0, bye.1, bye.2) at kind),
    )

-- A line with such an answer is none of the three.
other_kind : (answer : Result Request RequestFault) (passed load bye : Bool) → IsOther answer
    → IsKind answer passed load bye → (passed ≡ false) × (load ≡ false) × (bye ≡ false)
other_kind (Ok Nothing) passed load bye other kind = absurd (false≢true other)
other_kind (Ok Load) passed load bye other kind = absurd (false≢true other)
other_kind (Ok Bye) passed load bye other kind = absurd (false≢true other)
other_kind answer passed load bye other kind = kind

-- Where a line asks something of a record or has a fault, it is none of the three.
pub other_asks : (sheet : Option SheetView) (line : List ℕ) (answer : Result Request RequestFault)
    → request_of sheet line ≡ answer → IsOther answer
    → (is_passed line ≡ false) × (is_load line ≡ false) × (is_bye line ≡ false)
other_asks sheet line answer is other =
    other_kind answer (is_passed line) (is_load line) (is_bye line) other (answer_kind sheet line answer is)

-- Exactly the other lines ask for something of a record or have a fault.
pub asks_other : (sheet : Option SheetView) (line : List ℕ)
    → IsOther (request_of sheet line) ↔ ((is_passed line ≡ false) × (is_load line ≡ false) × (is_bye line ≡ false))
asks_other sheet line =
    let kind = request_kind sheet line in (
      λ other. other_asks sheet line (request_of sheet line) refl other,
      λ none. only_other (request_of sheet line) (rw (none.0, none.1, none.2) at kind),
    )
