use Rattle.std.proofs.Common.{◌≤◌, ◌∙◌, ap, arith}
use Rattle.cut_model.specs.Net.{Net}
use Rattle.path_minimum.proofs.Counted.{weakest-none, weakest-edge, weakest-cut, weakest-within}
use Rattle.path_minimum.proofs.weakest_edge.weakest.Goals as goal

-- all routers were looked at
all : (c : goal.After-loop-child) → c.args.finished.now.tree.net.routers ≤ c.loop-child.child
all c = omega (
  arith,
  c.routers-child-end.ensures.value,
  ap (λ (net : Net). net.routers) (c.deref.ensures ∙ c.net.ensures.value),
)

pub returns-clause-none : goal.returns-clause-none
returns-clause-none c = weakest-none c.args.finished.now.tree c.net.ensures.tree c.loop-child.child c.loop-child.least
    (all c) c.loop-child.invariant.weakest

pub returns-clause-edge : goal.returns-clause-edge
returns-clause-edge c = weakest-edge c.args.finished.now.tree c.loop-child.child c.loop-child.least (all c)
    c.loop-child.invariant.weakest

pub returns-clause-least : goal.returns-clause-least
returns-clause-least c = weakest-cut c.args.finished.now.tree c.net.ensures.tree c.loop-child.child c.loop-child.least
    (all c) c.loop-child.invariant.weakest

pub returns-clause-within : goal.returns-clause-within
returns-clause-within c = weakest-within c.args.finished.now.tree c.loop-child.child c.loop-child.least
    c.loop-child.invariant.weakest
