use Rattle.tree_versions.proofs.tests.a_seat_sees_what_it_was_told_of.Given as goal

-- the log that was just opened, and all parts of the blank ledger
abbrev pub ghosts-learn_at_another_seat-B-Board : goal.ghosts-learn_at_another_seat-B-Board
ghosts-learn_at_another_seat-B-Board g a = record { log = a.opened.seen.book; all = a.blank.parts }

-- the ledger of that blank
abbrev pub ghosts-learn_at_another_seat-B-Ledger : goal.ghosts-learn_at_another_seat-B-Ledger
ghosts-learn_at_another_seat-B-Ledger g a = record { name = a.blank.name; parts = a.blank.parts }
