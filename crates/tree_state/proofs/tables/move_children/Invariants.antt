use Rattle.cut_model.specs.Cuts.{set_of}
use Rattle.tree_state.proofs.Words.{AreMoved}
use Rattle.tree_state.proofs.tables.move_children.Given as goal

-- the routers of the words before this one are moved, and the others stand as they did
abbrev pub invariant-loop-place : goal.invariant-loop-place
invariant-loop-place l =
    AreMoved (record { s = l.s; t = l.t; X = set_of l.side; before = l.initial.up }) l.place l.up
