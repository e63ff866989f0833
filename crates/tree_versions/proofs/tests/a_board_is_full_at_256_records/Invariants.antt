use Rattle.tree_versions.proofs.tests.a_board_is_full_at_256_records.Given as goal

-- the log that was just opened, and all parts of the blank ledger
abbrev pub ghosts-publish_one_too_many-B-Board : goal.ghosts-publish_one_too_many-B-Board
ghosts-publish_one_too_many-B-Board g a = record { log = a.opened.seen.book; all = a.blank.parts }

-- the ledger of that blank
abbrev pub ghosts-publish_one_too_many-B-Ledger : goal.ghosts-publish_one_too_many-B-Ledger
ghosts-publish_one_too_many-B-Ledger g a = record { name = a.blank.name; parts = a.blank.parts }
