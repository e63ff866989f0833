-- Lines as they are written are taken by what they say.
use Rattle.std.proofs.Common.{◌≡◌, ◌≢◌, ℕ, ◌+◌, ◌<◌, List, [], ◌∷◌, ◌++◌, Bool, true, false, ◌&&◌, length, fold}
use Rattle.std.proofs.Common.{refl, sym, ap, ◌∙◌, arith, take_all, Ok, Err, Result}
use Rattle.std.proofs.lemmas.Bool.{ne_eqb}
use Rattle.std.specs.Prelude.{◌==◌, not}
use Rattle.std.specs.List.{AllByRecursion}
use Rattle.text_forms.specs.declared.lines.TheConstants.{MOST_LINE_BYTES}
use Rattle.text_forms.specs.Lines.{front_of, fronts_of, is_long}
use Rattle.text_forms.specs.Words.{is_end, is_passed}
use Rattle.text_forms.proofs.LinesOf.{fronts_of-line}
use Rattle.text_forms.proofs.Written.{IsLineOf, is_long-short, is_passed-word}
use Rattle.network_text.specs.Texts.{Draft, Progress, after_line, with_line}
use Rattle.network_text.specs.declared.fault.TextFault.{TextFault}
use Rattle.network_text.specs.declared.fault.TextKind.{TextKind}
use Rattle.certifier.specs.Certificates.{GoesOn, Network, Stage, Verdict, take_counted, take_drafted, take_line}
use Rattle.certifier.specs.Certificates.{verdict_by, verdict_from}
use Rattle.certifier.specs.Forms.{is_reply, short_words}

-- The verdict on a text from a stage on, behind so many lines.
abbrev pub read : Bool → ℕ → Stage → List ℕ → Verdict
read ended seen stage text = verdict_from ended seen stage (fronts_of ended text)

-- What is looked at of a line that isn't too long is the whole line.
front_of-short : {words : List (List ℕ)} {line : List ℕ} → IsLineOf words line → front_of line ≡ line
front_of-short {line = line} is = let short = is.short in take_all (MOST_LINE_BYTES + 1) line (omega arith)

-- A line is taken, and then what stands behind it.
pub read-line : (ended : Bool) (seen : ℕ) (stage : Stage) {words : List (List ℕ)} (line more : List ℕ)
    → IsLineOf words line
    → read ended seen stage (line ++ 10 ∷ more)
    ≡ verdict_by (take_line (seen + 1) stage line) (seen + 1) (λ after. read ended (seen + 1) after more)
read-line ended seen stage line more is =
    ap (verdict_from ended seen stage)
    (fronts_of-line ended line more is.clean ∙ ap (λ l. l ∷ fronts_of ended more) (front_of-short is))

-- A line that goes on leads to the next stage.
pub read-on : (ended : Bool) (seen : ℕ) (stage after : Stage) {words : List (List ℕ)} (line more : List ℕ)
    → IsLineOf words line → take_line (seen + 1) stage line ≡ GoesOn after
    → read ended seen stage (line ++ 10 ∷ more) ≡ read ended (seen + 1) after more
read-on ended seen stage after line more is taken =
    read-line ended seen stage line more is
    ∙ ap (λ t. verdict_by t (seen + 1) (λ next. read ended (seen + 1) next more)) taken

-- The words of such a line are what it was written of.
pub short_words-are : {words : List (List ℕ)} {line : List ℕ} → IsLineOf words line → short_words line ≡ words
short_words-are is = rw (is_long-short is, is.parts) refl

-- A line that isn't the first one and no remark counts.
pub counts : {b : ℕ} {word : List ℕ} {words : List (List ℕ)} {line : List ℕ} (number : ℕ) (stage : Stage)
    → IsLineOf ((b ∷ word) ∷ words) line → b ≢ 35 → number ≢ 1
    → take_line number stage line ≡ take_counted number stage line
counts number stage is other later = rw (is_passed-word is other, ne_eqb number 1 later) refl

-- So does a line that neither is a remark nor begins a reply.
pub counts_first : (number : ℕ) (stage : Stage) (line : List ℕ) → is_passed line ≡ false → is_reply line ≡ false
    → take_line number stage line ≡ take_counted number stage line
counts_first number stage line on no_reply = rw (on, no_reply, and_false (number == 1)) refl
  where
    and_false : (b : Bool) → (b && false && not (is_long line)) ≡ false
    and_false true = refl
    and_false false = refl

-- A line of the network that doesn't end it adds what it says.
network_line : (number : ℕ) (draft : Draft) (line : List ℕ) → number ≢ 1 → is_end line ≡ false
    → take_line number (Network draft) line ≡ take_drafted number (with_line draft line)
network_line number draft line later unended = of_kind (is_passed line) refl
  where
    of_kind : (passed : Bool) → is_passed line ≡ passed
        → take_line number (Network draft) line ≡ take_drafted number (with_line draft line)
    of_kind true is = rw is refl
    of_kind false is = rw (is, ne_eqb number 1 later, unended) refl

-- A fault that was noted stays.
noted_stays : (progress : Progress) (fault : TextFault) (lines : List (List ℕ)) → progress.draft ≡ Err fault
    → (fold after_line progress lines).draft ≡ Err fault
noted_stays progress fault [] is = is
noted_stays progress fault (line ∷ lines) is = noted_stays (after_line progress line) fault lines (rw is refl)

-- What is drafted is one draft.
one_draft : {old new : Draft} (said : Result Draft TextFault) → said ≡ Ok old → said ≡ Ok new → old ≡ new
one_draft said is other = cc

-- Lines of a network that are no END and have no fault are taken one after the other.
pub read-network : (ended : Bool) (seen : ℕ) (progress : Progress) (old new : Draft) (lines more : List (List ℕ))
    → 0 < seen → AllByRecursion (λ line. is_end line ≡ false) lines → progress.draft ≡ Ok old
    → (fold after_line progress lines).draft ≡ Ok new
    → verdict_from ended seen (Network old) (lines ++ more)
    ≡ verdict_from ended (seen + length lines) (Network new) more
read-network ended seen progress old new [] more later unended before after =
    let same : old ≡ new = one_draft progress.draft before after in
    ap (λ draft. verdict_from ended seen (Network draft) more) same
    ∙ ap (λ n. verdict_from ended n (Network new) more) (omega arith)
read-network ended seen progress old new (line ∷ lines) more later unended before after =
    of_line (with_line old line) refl
    (λ draft drafted. read-network ended (seen + 1) (after_line progress line) draft new lines more (omega arith)
    unended.1 drafted after)
  where
    next : Progress
    next = after_line progress line

    of_line : (said : Result Draft TextKind) → with_line old line ≡ said
        → ((draft : Draft) → (after_line progress line).draft ≡ Ok draft
        → verdict_from ended (seen + 1) (Network draft) (lines ++ more)
        ≡ verdict_from ended (seen + 1 + length lines) (Network new) more)
        → verdict_from ended seen (Network old) (line ∷ (lines ++ more))
        ≡ verdict_from ended (seen + length (line ∷ lines)) (Network new) more
    of_line (Ok draft) is rest =
        let drafted : next.draft ≡ Ok draft = rw (before, is) refl in
        ap (λ t. verdict_by t (seen + 1) (λ s. verdict_from ended (seen + 1) s (lines ++ more)))
        (network_line (seen + 1) old line (λ e. omega arith) unended.0 ∙ ap (take_drafted (seen + 1)) is)
        ∙ rest draft drafted ∙ ap (λ n. verdict_from ended n (Network new) more) (omega arith)
    of_line (Err kind) is rest =
        let fault : next.draft ≡ Err record { kind = kind; line = progress.lines + 1 } = rw (before, is) refl in
        let noted = noted_stays next record { kind = kind; line = progress.lines + 1 } lines fault in
        absurd (let e = sym after ∙ noted in cc)
