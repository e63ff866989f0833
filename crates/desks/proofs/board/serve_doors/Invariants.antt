use Rattle.desks.proofs.board.serve_doors.Given as goal

-- The log and the ledger of the board are those that are opened here.
abbrev pub ghosts-serve_on_board-B-Board : goal.ghosts-serve_on_board-B-Board
ghosts-serve_on_board-B-Board g a = record { log = a.opened.seen.book; all = a.blank.parts }

abbrev pub ghosts-serve_on_board-B-Ledger : goal.ghosts-serve_on_board-B-Ledger
ghosts-serve_on_board-B-Ledger g a = record { name = a.blank.name; parts = a.blank.parts }
