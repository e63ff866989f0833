-- A copy begins all cursors, and what a loop has begun stays begun.
use Rattle.std.proofs.Common.{get_or}
use Rattle.dinic_flow.proofs.search.begin_both.Goals as goal

pub returns-then-near-far-clause-near : goal.returns-then-near-far-clause-near
returns-then-near-far-clause-near c = λ k short.
    c.copy_begins.ensures.begins (get_or c.args.near.now k 0) (c.requires.near k 0 short)

pub returns-then-near-far-clause-far : goal.returns-then-near-far-clause-far
returns-then-near-far-clause-far c = λ k short.
    c.copy_begins.ensures.begins (get_or c.args.far.now k 0) (c.requires.far k 0 short)

pub returns-else-near-far-clause-near : goal.returns-else-near-far-clause-near
returns-else-near-far-clause-near c = λ k short.
    c.begin_cursors-else-near-far.ensures.kept (get_or c.args.near.now k 0) (c.begin_cursors.ensures.begun k short)

pub returns-else-near-far-clause-far : goal.returns-else-near-far-clause-far
returns-else-near-far-clause-far c = c.begin_cursors-else-near-far.ensures.begun
