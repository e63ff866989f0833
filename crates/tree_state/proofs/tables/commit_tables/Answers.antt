use Rattle.std.proofs.Common.{sym, ◌∙◌, arith}
use Rattle.std.proofs.Math.ListN.{length-set}
use Rattle.tree_state.proofs.Written.{IsMoved, up_swapped, up_plain, width_swapped, width_plain, move_of, moved_by_cut}
use Rattle.tree_state.proofs.tables.commit_tables.Goals as goal
use Rattle.tree_state.proofs.tables.commit_tables.Goals.{After-move_children}

-- the routers of the cut are moved
moved : (c : After-move_children) → IsMoved (move_of c.args.cut.now c.args.up.now) c.move_children.new.up
moved c =
    moved_by_cut c.args.cut.now c.args.up.now c.move_children.new.up c.router-s.ensures.cut c.requires.ups
    c.move_children.auto.up
    (rw (c.router-s.ensures.value, c.neighbour-t.ensures.value, c.side-side.ensures.value) at c.move_children.ensures)

pub returns-then-swaps-clause-up : goal.returns-then-swaps-clause-up
returns-then-swaps-clause-up c = λ i within.
    rw (c.router-s.ensures.value, c.neighbour-t.ensures.value)
    (up_swapped c.args.root (move_of c.args.cut.now c.args.up.now) c.move_children.new.up
    (moved (goal.at.returns-then-swaps-clause-up c).After-move_children)
    (rw (c.neighbour-t.ensures.value, c.side-side.ensures.value) at (sym c.swaps-swaps.ensures ∙ c.if-swaps.true)) i
    (simp length-set at within))

pub returns-then-swaps-clause-width : goal.returns-then-swaps-clause-width
returns-then-swaps-clause-width c = λ i within.
    rw (c.router-s.ensures.value, c.neighbour-t.ensures.value, c.value-value.ensures.value)
    (width_swapped c.args.root (move_of c.args.cut.now c.args.up.now) c.move_children.new.up c.args.width.now
    c.args.cut.now.value (moved (goal.at.returns-then-swaps-clause-width c).After-move_children)
    (c.requires.widths ∙ sym c.requires.ups)
    (rw (c.neighbour-t.ensures.value, c.side-side.ensures.value) at (sym c.swaps-swaps.ensures ∙ c.if-swaps.true)) i)

pub returns-else-swaps-clause-up : goal.returns-else-swaps-clause-up
returns-else-swaps-clause-up c = λ i within.
    rw (c.router-s.ensures.value, c.neighbour-t.ensures.value)
    (up_plain c.args.root (move_of c.args.cut.now c.args.up.now) c.move_children.new.up
    (moved (goal.at.returns-else-swaps-clause-up c).After-move_children)
    (rw (c.neighbour-t.ensures.value, c.side-side.ensures.value) at (sym c.swaps-swaps.ensures ∙ c.if-swaps.false)) i
    (simp length-set at within))

pub returns-else-swaps-clause-width : goal.returns-else-swaps-clause-width
returns-else-swaps-clause-width c = λ i within.
    let is = moved (goal.at.returns-else-swaps-clause-width c).After-move_children in
    rw (c.router-s.ensures.value, c.value-value.ensures.value)
    (width_plain c.args.root (move_of c.args.cut.now c.args.up.now) c.args.width.now c.args.cut.now.value
    (omega (arith, is.s_in, c.requires.ups, c.requires.widths))
    (rw (c.neighbour-t.ensures.value, c.side-side.ensures.value) at (sym c.swaps-swaps.ensures ∙ c.if-swaps.false)) i)
