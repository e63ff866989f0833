use Rattle.tree_versions.proofs.tests.a_seat_sees_what_it_was_not_told_of.Given as goal

-- the log that was just opened, and all parts of the blank ledger
abbrev pub ghosts-look_from_another_seat-B-Board : goal.ghosts-look_from_another_seat-B-Board
ghosts-look_from_another_seat-B-Board g a = record { log = a.opened.seen.book; all = a.blank.parts }

-- the ledger of that blank
abbrev pub ghosts-look_from_another_seat-B-Ledger : goal.ghosts-look_from_another_seat-B-Ledger
ghosts-look_from_another_seat-B-Ledger g a = record { name = a.blank.name; parts = a.blank.parts }
