-- The step that adds a record keeps the rule of the log.
use Rattle.std.proofs.Common.{◌≡◌, ℕ, ◌+◌, ◌<◌, ◌==◌, Bool, true, false, List, [], ◌∷◌, ◌++◌, length, refl, ap, sym}
use Rattle.std.proofs.Common.{subst, arith, inl, length-append, None}
use Rattle.std.proofs.lemmas.Bool.Decides.{nat_tests}
use Rattle.std.proofs.lemmas.List.Elements.{All-push}
use Rattle.std.proofs.lemmas.List.{append-nil}
use Rattle.logbook.specs.Pages.{Cell, Goes, Moves, cell, keeps, no_nib, step}
use Rattle.tree_state.specs.History.{IsComplete}
use Rattle.tree_state.specs.Views.{HoldsCutTree}
use Rattle.tree_versions.proofs.Fronts.{Grows-whole}
use Rattle.tree_versions.specs.BoardRule.{Adds, IsKept, MayFollow}
use Rattle.tree_versions.specs.Records.{RecordView, tree_of}
use Rattle.tree_versions.specs.Solo.{IsSoundShelf}
use mathlib.Core.List.{IsPrefix}
use prog.Atomic.{either}

-- what clients see of the log: nothing
abbrev pub shown : List RecordView → List RecordView
shown log = []

-- what the rule asks of clients where the log moves: nothing
abbrev pub moved : List RecordView → List RecordView → ℕ → Type 0
moved before after answer = Unit {0}

-- a record that may follow leaves records that a shelf may hold
sound-push : (log : List RecordView) (added : RecordView) → IsSoundShelf log → MayFollow log added
    → IsSoundShelf (log ++ added ∷ [])
sound-push log added sound may = record {
  few = omega (arith, length-append log (added ∷ []), may.room);
  runs = All-push (λ (r : RecordView). IsComplete r.sheet.net r.history) log added sound.runs may.run;
  trees = All-push (λ (r : RecordView). HoldsCutTree (tree_of r)) log added sound.trees may.tree;
}

-- where the log is as long as what was seen, the exchange adds the record; else the log is longer, and stays
adds_goes : (log seen : List RecordView) (added : RecordView) (count : ℕ) → length seen ≡ count → MayFollow seen added
    → IsSoundShelf log → IsPrefix seen log → (same : Bool) → (length log == count) ≡ same
    → Goes IsKept shown moved 0 (seen, (no_nib, None)) (λ n. either (n == count) (count + 1) n)
    (Adds (step 0 count (count + 1) added) (seen, (no_nib, None))) ((length log, true) ∷ (0, true) ∷ []) log
adds_goes log seen added count len may sound begins true is =
    let here : length log ≡ count = grind (arith, nat_tests) in
    let same : seen ≡ log = Grows-whole seen log (begins.0, sym begins.1) (omega arith) in
    let longer : IsSoundShelf (log ++ added ∷ []) =
    sound-push log added sound (subst (λ v. MayFollow v added) same may) in
    let word : either (length log == count) (count + 1) (length log) ≡ length (log ++ added ∷ []) =
    rw is (omega (arith, length-append log (added ∷ []))) in (
      keeps,
      added ∷ [],
      None,
      tt,
      record { words = ap (λ (k : ℕ). (k, true) ∷ (0, true) ∷ []) word; sound = longer },
      inl (refl, refl),
      rw is (ap (λ v. v ++ added ∷ []) (sym same), longer),
    )
adds_goes log seen added count len may sound begins false is =
    let all : log ++ [] ≡ log = append-nil log in
    let still : IsSoundShelf (log ++ []) = subst IsSoundShelf (sym all) sound in
    let word : either (length log == count) (count + 1) (length log) ≡ length (log ++ []) =
    rw is (ap length (sym all)) in (
      keeps,
      [],
      None,
      tt,
      record { words = ap (λ (k : ℕ). (k, true) ∷ (0, true) ∷ []) word; sound = still },
      inl (refl, refl),
      rw is (ap length all, still),
    )

-- whatever the log is, the exchange adds the record behind all that was seen, or finds that the log is longer
pub adds_moves : (seen : List RecordView) (added : RecordView) (count : ℕ) → length seen ≡ count → MayFollow seen added
    → Moves IsKept shown moved 0 (seen, (no_nib, None)) (λ n. either (n == count) (count + 1) n)
    (Adds (step 0 count (count + 1) added) (seen, (no_nib, None)))
adds_moves seen added count len may cells log kept begins away =
    let GoesOn : List Cell → Type 0 = λ c. (0 < length c) × ((cell c 0).1 ≡ true)
    × Goes IsKept shown moved 0 (seen, (no_nib, None)) (λ n. either (n == count) (count + 1) n)
    (Adds (step 0 count (count + 1) added) (seen, (no_nib, None))) c log in
    subst GoesOn (sym kept.words)
    (omega arith, refl, adds_goes log seen added count len may kept.sound begins (length log == count) refl)
