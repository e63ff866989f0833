-- The rule of the log of a board, and what the step that adds a record tells.
use Rattle.std.specs.Prelude.{◌≡◌, ℕ, ◌==◌, ◌<◌, true, List, [], ◌∷◌, ◌++◌, length, MatchBool}
use Rattle.logbook.specs.Pages.{Book, Cell, Named, Step, View}
use Rattle.tree_state.specs.History.{IsComplete}
use Rattle.tree_state.specs.Views.{HoldsCutTree}
use Rattle.tree_versions.specs.Records.{RecordView, Grows, tree_of}
use Rattle.tree_versions.specs.Solo.{IsSoundShelf}
use Rattle.tree_versions.specs.declared.shelf.TheConstants.{MOST_RECORDS}

-- A record may follow the records of a log: there is room, its run is complete over its own network, and its tree is a
-- cut tree.
pub record MayFollow (log : List RecordView) (added : RecordView) : Type 0 where
  pub room : length log < MOST_RECORDS
  pub run : IsComplete added.sheet.net added.history
  pub tree : HoldsCutTree (tree_of added)

-- A list goes on behind another one.
pub record IsLonger (front whole : List RecordView) : Type 0 where
  pub grows : Grows front whole
  pub longer : length front < length whole

-- The first word is the length of the log, and the log is one that a shelf may hold. A book has two words; the second
-- one is not used.
pub record IsKept (cells : List Cell) (log : List RecordView) : Type 0 where
  pub words : cells ≡ (length log, true) ∷ (0, true) ∷ []
  pub sound : IsSoundShelf log

-- The word that holds the length of the log of a book.
abbrev pub word_of : Book → Named
word_of book = record { tracked = true; key = 0; book = book }

-- What was asked for was added behind all that had been seen, or the log was longer, and its length was found.
abbrev pub Adds : Step RecordView → View RecordView ℕ → ℕ → View RecordView ℕ → Type 0
Adds step before found after =
    MatchBool (found == step.old) ((after.0 ≡ before.0 ++ step.ask ∷ []) × IsSoundShelf after.0)
    ((length after.0 ≡ found) × IsSoundShelf after.0)
