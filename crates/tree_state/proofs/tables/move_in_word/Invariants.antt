use Rattle.tree_state.proofs.Words.{AreMovedTo}
use Rattle.tree_state.proofs.tables.move_in_word.Given as goal

-- those before the router are moved, and the others stand as they did
abbrev pub invariant-loop-i : goal.invariant-loop-i
invariant-loop-i l =
    AreMovedTo (record { place = l.place; word = l.word; s = l.s; t = l.t; before = l.initial.up }) l.i l.up
