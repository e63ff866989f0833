-- What is written of a sheet has that sheet again.
use Rattle.std.proofs.Common.{◌≡◌, ℕ, ◌+◌, true, length, refl, ap, ◌∙◌, arith, Ok}
use Rattle.std.proofs.lemmas.Bool.{ne_eqb}
use Rattle.text_forms.specs.Lines.{fronts_of}
use Rattle.network_text.specs.Sheets.{SheetView, IsSheet}
use Rattle.network_text.specs.Texts.{Progress, progress_of, verdict_at, verdict_of, whole_verdict}
use Rattle.network_text.specs.Writing.{before_end, sheet_text, verdict_in}
use Rattle.network_text.proofs.RereadingDrafts.{draft_of, draft-sheet}
use Rattle.network_text.proofs.RereadingLines.{sheet_fronts, before_end-sheet_text, has_end-sheet_text}

-- The names and links of a sheet make this sheet.
whole_verdict-sheet : (number : ℕ) (sheet : SheetView) → IsSheet sheet.names sheet.net
    → whole_verdict number true (draft_of sheet.names sheet.net.links) ≡ Ok sheet
whole_verdict-sheet number sheet is =
    let numbered = is.numbered in
    let some = is.limits.some in
    rw (ne_eqb (length sheet.names) 0 (λ none. omega arith), numbered) refl

-- So does a text that has named them and came to its END.
verdict_at-sheet : (progress : Progress) (sheet : SheetView) → IsSheet sheet.names sheet.net
    → progress.draft ≡ Ok (draft_of sheet.names sheet.net.links) → verdict_at true progress ≡ Ok sheet
verdict_at-sheet progress sheet is named = rw named (whole_verdict-sheet (progress.lines + 1) sheet is)

-- The verdict on the text of a sheet is that sheet.
pub verdict_in-sheet_text : (sheet : SheetView) → IsSheet sheet.names sheet.net
    → verdict_in (sheet_text sheet) ≡ Ok sheet
verdict_in-sheet_text sheet is =
    let fronts = fronts_of true (sheet_text sheet) in
    ap (λ ended. verdict_of (before_end fronts) ended) (has_end-sheet_text sheet is)
    ∙ ap (λ lines. verdict_of lines true) (before_end-sheet_text sheet is)
    ∙ verdict_at-sheet (progress_of (sheet_fronts sheet)) sheet is (draft-sheet sheet is)
