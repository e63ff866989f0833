use Rattle.tree_versions.proofs.tests.what_two_desks_publish_stands_at_its_versions.Given as goal

-- the log that was just opened, and all parts of the blank ledger
abbrev pub ghosts-work_two_desks-B-Board : goal.ghosts-work_two_desks-B-Board
ghosts-work_two_desks-B-Board g a = record { log = a.opened.seen.book; all = a.blank.parts }

-- the ledger of that blank
abbrev pub ghosts-work_two_desks-B-Ledger : goal.ghosts-work_two_desks-B-Ledger
ghosts-work_two_desks-B-Ledger g a = record { name = a.blank.name; parts = a.blank.parts }
